-- What a call of a conversion reports and leaves, and what is printed of it.
use mathlib.Core.Path.{◌≡◌, refl, sym, ap, ◌∙◌}
use mathlib.Core.Bool.{Bool, true, false, cond}
use mathlib.Core.List.{List}
use Prim.Native.Nat.{ℕ, ◌≤◌}
use borrow.Author.Tests.{leb-true}
use lib.Dec.{leb}
use lib.ListN.{length, take, drop}
use lib.Seq.{take-append_seam}
use Rattle.octets.specs.Answer.{Output, output, refused, Answer, success, refusal, Result, overwritten, delivered}
use Rattle.octets.specs.Calls.{Gives}
use Rattle.line_answers.specs.Answers.{refusal_line, answer_text}

module _ (spelled : List ℕ → List ℕ) where
  -- of what is shown, and of the buffer before and after
  abbrev pub Told : Answer → List ℕ → List ℕ → List ℕ → Type 0
  Told (success n) x b b' = (l : List ℕ) × (x ≡ spelled l) × (n ≡ length l) × (n ≤ length b) × (b' ≡ overwritten l b)
  Told (refusal k p) x b b' = (x ≡ refusal_line k p) × (b' ≡ b)

  pub told : (no_room : ℕ) (o : Output) (b : List ℕ)
      → Told (delivered no_room o b).answer (answer_text spelled (length b) no_room o) b (delivered no_room o b).buffer
  unfolding delivered answer_text
  told no_room (output l) b = go (leb (length l) (length b)) refl
    where
      left : Bool → Result
      left t = cond t (record { answer = success (length l); buffer = overwritten l b })
          (record { answer = refusal no_room 0; buffer = b })

      go : (t : Bool) → leb (length l) (length b) ≡ t
          → Told (left t).answer (cond t (spelled l) (refusal_line no_room 0)) b (left t).buffer
      go true e = (l, refl, refl, leb-true _ _ e, refl)
      go false e = (refl, refl)
  told no_room (refused k p) b = (refl, refl)

  pub told_by : (no_room : ℕ) (o : Output) (b : List ℕ) {b' : List ℕ} {a : Answer}
      → Gives (delivered no_room o b) a b' → Told a (answer_text spelled (length b) no_room o) b b'
  told_by no_room o b g = rw (g.answers, g.leaves) (told no_room o b)

  -- the line: the octets up to the reported length, as the call leaves them, or the refusal
  abbrev pub call_line : Answer → List ℕ → List ℕ
  call_line (success n) b = spelled (take n b)
  call_line (refusal k p) b = refusal_line k p

  pub told_line : (a : Answer) (x b b' : List ℕ) → Told a x b b' → call_line a b' ≡ x
  told_line (success n) x b b' (l, e, f, h, g) = rw (g, f) (ap spelled (take-append_seam l (drop (length l) b)) ∙ sym e)
  told_line (refusal k p) x b b' t = sym t.0
