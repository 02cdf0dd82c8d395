-- Calls of a conversion: what one gives, what it writes, and how that follows from what its runs wrote.
use Rattle.std.specs.Prelude.{◌≡◌, List, ℕ, ◌≤◌, ◌<◌, Ok, Err}
use Rattle.std.specs.Prelude.{Result as Answered}
use Rattle.std.proofs.Math.Path.{refl}
use Rattle.std.proofs.Common.{ap, ◌∙◌, le-leb}
use native.Mathlib.Omega.{arith}
use Rattle.std.proofs.lemmas.Bool.{lt-leb}
use Rattle.std.proofs.Math.ListN.{length}
use Rattle.octets.specs.Answer.{output, Answer, success, refusal, Result, written, delivered}
use Rattle.octets.specs.Answer as answer
use Rattle.octets.specs.Overlay.{Wrote, overlay_first}
use Rattle.octets.specs.declared.Rule.{Rule}
use Rattle.octets.specs.declared.Rule.TheVariants.{Cut, LongMessage, Reserved, Target, LongName, Short, LeftOver, LongForm}
use Rattle.octets.specs.declared.Rule.TheVariants.{TextRoom, Surplus, Grammar, Meaning, Limit, MessageRoom}
use Rattle.octets.specs.declared.Refusal.{Refusal}

-- the format's number of a rule
abbrev pub number_of : Rule → ℕ
number_of Cut = 1
number_of LongMessage = 2
number_of Reserved = 4
number_of Target = 5
number_of LongName = 6
number_of Short = 7
number_of LeftOver = 8
number_of LongForm = 9
number_of TextRoom = 10
number_of Surplus = 11
number_of Grammar = 20
number_of Meaning = 21
number_of Limit = 22
number_of MessageRoom = 23

-- what the code's answer says: success with the length, or the refusal's number and place
abbrev pub answer_of : Answered ℕ Refusal → Answer
answer_of (Ok n) = success n
answer_of (Err r) = refusal (number_of r.rule) r.place

-- the call gave this answer and left this buffer
pub record Gives (left : Result) (a : Answer) (after : List ℕ) : Type 0 where
  pub answers : a ≡ left.answer
  pub leaves : after ≡ left.buffer

-- a call: the octets given, the lent buffer before it, its answer, the buffer after it
pub record Call : Type 0 where
  pub input : List ℕ
  pub before : List ℕ
  pub answer : Answer
  pub after : List ℕ

-- what the call answered and left in its buffer
abbrev pub result_of : Call → Result
result_of c = record { answer = c.answer; buffer = c.after }

-- what it wrote: the octets of its buffer up to the reported length; a refusal adds nothing
abbrev pub written_by : Call → List ℕ
written_by c = written (result_of c)

-- ---- an output, and the buffer b
module _ (no_room : ℕ) (b : List ℕ) where
  pub gives_refusal : (number place : ℕ)
      → Gives (delivered no_room (answer.refused number place) b) (refusal number place) b
  unfolding delivered
  gives_refusal number place = record { answers = refl; leaves = refl }

  -- no room for it
  pub gives_none : (l : List ℕ) → length b < length l → Gives (delivered no_room (output l) b) (refusal no_room 0) b
  unfolding delivered
  gives_none l h = record { answers = rw (lt-leb _ _ h); leaves = rw (lt-leb _ _ h) }

  -- it was written where it fits
  pub gives_written : (l : List ℕ) {b' : List ℕ} {n r : ℕ} → Wrote b 0 l b' r → n ≡ length l → n ≤ length b
      → Gives (delivered no_room (output l) b) (success n) b'
  unfolding delivered
  gives_written l {b'} {n} w e h =
      let k : length l ≤ length b = omega arith in
      record { answers = rw (le-leb _ _ k) (ap success e); leaves = w.text ∙ overlay_first b l k ∙ rw (le-leb _ _ k) }
