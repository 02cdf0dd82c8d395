-- A piece of the input: how much of it a call takes, what the call writes and keeps.
use Rattle.std.specs.Prelude.{◌≡◌, cond, ◌&&◌, List, [], ◌∷◌, ℕ, suc, ◌-◌, ◌≤◌, ◌<◌, eqb, ltb, length, take}
use Rattle.std.proofs.Math.Bool.{and-false}
use Rattle.std.proofs.Common.{arith, le-ltb}
use Rattle.octets.specs.Overlay.{Wrote}
use Rattle.lines.specs.Reading.{line_after, printed_at, so_far, printed_over}
use Rattle.lines.specs.Programs.{most_kept, answer_room}

-- How many octets of a piece are taken: all of them; or those before the first end of a line for which less room is
-- left than the longest answer needs.
unfoldable pub taken_of : (List ℕ → List ℕ) → ℕ → List ℕ → List ℕ → ℕ
taken_of answer room line [] = 0
taken_of answer room line (c ∷ s) = cond (eqb c 10 && ltb room answer_room) 0
    (suc (taken_of answer (room - length (printed_at answer line c)) (line_after line c) s))

-- What a call does with a piece, and with the line kept before it: it takes so many octets, writes what is printed over
-- them, and keeps of the line what may be needed.
pub record Answers (answer : List ℕ → List ℕ) (line input out line' out' : List ℕ) (taken size : ℕ) : Type 0 where
  pub took : taken ≡ taken_of answer (length out) line input
  pub wrote : Wrote out 0 (printed_over answer line (take taken input)) out' size
  pub kept : line' ≡ take most_kept (so_far line (take taken input))
  pub fits : size ≤ length out

-- how many octets of a list come before the first 10
unfoldable pub line_length : List ℕ → ℕ
line_length [] = 0
line_length (c ∷ s) = cond (eqb c 10) 0 (suc (line_length s))

-- given room for an answer, an octet is taken
pub takes_some : {answer : List ℕ → List ℕ} {line : List ℕ} (input : List ℕ) {out line' out' : List ℕ} {taken size : ℕ}
    → Answers answer line input out line' out' taken size → 0 < length input → answer_room ≤ length out → 0 < taken
unfolding taken_of
takes_some [] p h room = absurd (omega arith)
takes_some {answer} {line} (c ∷ s) {out} p h room =
    let q : taken_of answer (length out) line (c ∷ s) ≡ suc (taken_of answer
    (length out - length (printed_at answer line c)) (line_after line c) s) =
    rw (le-ltb (length out) answer_room room, and-false) in
    omega (arith, p.took, q)
