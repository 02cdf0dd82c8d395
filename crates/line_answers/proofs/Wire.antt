-- The answer to a line of `towire`, by the ways through the code.
use mathlib.Core.Path.{◌≡◌, sym}
use mathlib.Core.List.{List}
use Prim.Native.Nat.{ℕ, ◌≤◌}
use native.Mathlib.Omega.{arith}
use lib.ListN.{length, take}
use Rattle.octets.specs.Overlay.{Wrote}
use Rattle.octets.specs.Answer.{Answer, success, refusal}
use Rattle.octets.specs.Calls.{Gives}
use Rattle.strict.specs.Reading.{reading, to_wire}
use Rattle.line_answers.specs.Answers.{refusal_line, answer_text, as_hex, wire_answer}
use Rattle.line_answers.proofs.Calls.{Told, told, told_by, call_line, told_line}

-- ---- the reader's answer
-- what `towire` prints for a text is what a call reports and leaves, whatever its buffer of that length held
pub call_line_lem : (s m : List ℕ)
    → call_line as_hex (to_wire s m).answer (to_wire s m).buffer ≡ answer_text as_hex (length m) 23 (reading s)
unfolding to_wire
call_line_lem s m = told_line as_hex (to_wire s m).answer _ m (to_wire s m).buffer (told as_hex 23 (reading s) m)

-- ---- the ways to an answer
module _ (s m : List ℕ) {m' : List ℕ} (k : length m ≡ 4096) where
  told_here : {a : Answer} → Gives (to_wire s m) a m' → Told as_hex a (wire_answer s) m m'
  unfolding to_wire
  told_here p = rw (sym k) (told_by as_hex 23 (reading s) m p)

  -- a message: its octets in hexadecimal
  module _ {n : ℕ} (p : Gives (to_wire s m) (success n) m') where
    pub message_within : n ≤ 4096
    message_within = let (l, q, f, h, g) = told_here p in omega arith

    pub message_answer : {b b' : List ℕ} {r : ℕ} → Wrote b 0 (as_hex (take n m')) b' r
        → Wrote b 0 (wire_answer s) b' r
    message_answer w = rw (sym (told_line as_hex (success n) _ m m' (told_here p))) w

  -- or the refusal
  pub refused_answer : {number place : ℕ} → Gives (to_wire s m) (refusal number place) m' → {b b' : List ℕ} {r : ℕ}
      → Wrote b 0 (refusal_line number place) b' r → Wrote b 0 (wire_answer s) b' r
  refused_answer p w = rw (told_here p).0 w
