-- Reading an input octet by octet: the line so far, and what is printed on the way.
use Rattle.std.specs.Prelude.{◌≡◌, Bool, leb, eqb, length}
use Rattle.std.proofs.Math.Path.{refl, sym}
use Rattle.std.proofs.Common.{◌∙◌, arith, leb-true, leb-false, take_all, take-take, length-take-le}
use Rattle.std.proofs.Math.Bool.{true, false, cond}
use mathlib.Core.List.{List, [], ◌∷◌, ◌++◌, append_assoc, append-nil}
use Prim.Native.Nat.{ℕ, zero, suc, ◌<◌}
use Rattle.std.proofs.Math.ListN.{take}
use Rattle.std.proofs.Math.Seq.{take-nil}
use Rattle.std.proofs.lemmas.List.{take-append-le}
use Rattle.octets.specs.Lists.{none?, each}
use Rattle.line_answers.specs.Answers.{printed}
use Rattle.lines.specs.Lines.{lines_from, program_output}

-- the line so far after one octet more, and what is printed there
unfoldable pub line_after : List ℕ → ℕ → List ℕ
line_after line c = cond (eqb c 10) [] (line ++ (c ∷ []))

unfoldable pub printed_at : (List ℕ → List ℕ) → List ℕ → ℕ → List ℕ
printed_at answer line c = cond (eqb c 10) (printed answer line) []

-- the line so far after a part of the input, and what is printed over it
unfoldable pub so_far : List ℕ → List ℕ → List ℕ
so_far line [] = line
so_far line (c ∷ s) = so_far (line_after line c) s

unfoldable pub printed_over : (List ℕ → List ℕ) → List ℕ → List ℕ → List ℕ
printed_over answer line [] = []
printed_over answer line (c ∷ s) = printed_at answer line c ++ printed_over answer (line_after line c) s

-- what is printed at the input's end
unfoldable pub printed_last : (List ℕ → List ℕ) → List ℕ → List ℕ
printed_last answer line = cond (none? line) [] (printed answer line)

-- ---- octet by octet is line by line
module _ (answer : List ℕ → List ℕ) where
  from_line : (line s : List ℕ)
      → each (printed answer) (lines_from line s) ≡ printed_over answer line s ++ printed_last answer (so_far line s)
  unfolding lines_from each so_far printed_over printed_last line_after printed_at
  from_line line [] = go (none? line)
    where
      go : (b : Bool) → each (printed answer) (cond b [] (line ∷ [])) ≡ cond b [] (printed answer line)
      go true = refl
      go false = append-nil (printed answer line)
  from_line line (c ∷ s) = go (eqb c 10) (from_line [] s) (from_line (line ++ (c ∷ [])) s)
    where
      go : (b : Bool)
          → each (printed answer) (lines_from [] s) ≡ printed_over answer [] s ++ printed_last answer (so_far [] s)
          → each (printed answer) (lines_from (line ++ (c ∷ [])) s)
          ≡ printed_over answer (line ++ (c ∷ [])) s ++ printed_last answer (so_far (line ++ (c ∷ [])) s)
          → each (printed answer) (cond b (line ∷ lines_from [] s) (lines_from (line ++ (c ∷ [])) s))
          ≡ cond b (printed answer line) [] ++ printed_over answer (cond b [] (line ++ (c ∷ []))) s
          ++ printed_last answer (so_far (cond b [] (line ++ (c ∷ []))) s)
      go true p q = rw (p, append_assoc)
      go false p q = q

  pub output_steps : (input : List ℕ)
      → program_output answer input ≡ printed_over answer [] input ++ printed_last answer (so_far [] input)
  unfolding program_output
  output_steps input = from_line [] input

  -- the input may come in any pieces
  pub printed-pieces : (line s t : List ℕ)
      → printed_over answer line (s ++ t) ≡ printed_over answer line s ++ printed_over answer (so_far line s) t
  unfolding so_far printed_over
  printed-pieces line [] t = refl
  printed-pieces line (c ∷ s) t = rw (printed-pieces (line_after line c) s t, append_assoc)

pub so_far_pieces : (line s t : List ℕ) → so_far line (s ++ t) ≡ so_far (so_far line s) t
unfolding so_far
so_far_pieces line [] t = refl
so_far_pieces line (c ∷ s) t = so_far_pieces (line_after line c) s t

-- ---- only the first octets of a line are kept
module _ (cap : ℕ) where
  kept_append : (l m : List ℕ) → take cap (take cap l ++ m) ≡ take cap (l ++ m)
  kept_append l m = go (leb (length l) cap) refl
    where
      go : (b : Bool) → leb (length l) cap ≡ b → take cap (take cap l ++ m) ≡ take cap (l ++ m)
      go true e = rw (take_all cap l (leb-true _ _ e))
      go false e =
          let h : cap < length l = leb-false (length l) cap e in
          let n : length (take cap l) ≡ cap = length-take-le cap l (omega arith) in
          take-append-le cap (take cap l) m (omega arith) ∙ take-take cap cap l (omega arith)
          ∙ sym (take-append-le cap l m (omega arith))

  kept_after : (line : List ℕ) (c : ℕ) → take cap (line_after (take cap line) c) ≡ take cap (line_after line c)
  unfolding line_after
  kept_after line c = go (eqb c 10)
    where
      go : (b : Bool) → take cap (cond b [] (take cap line ++ (c ∷ []))) ≡ take cap (cond b [] (line ++ (c ∷ [])))
      go true = refl
      go false = kept_append line (c ∷ [])

  -- two lines that begin alike go on alike
  alike_after : (l m : List ℕ) (c : ℕ) → take cap l ≡ take cap m → take cap (line_after l c) ≡ take cap (line_after m c)
  alike_after l m c e = sym (kept_after l c) ∙ rw e (kept_after m c)

  pub kept_alike : (l m s : List ℕ) → take cap l ≡ take cap m → take cap (so_far l s) ≡ take cap (so_far m s)
  unfolding so_far
  kept_alike l m [] e = e
  kept_alike l m (c ∷ s) e = kept_alike (line_after l c) (line_after m c) s (alike_after l m c e)

  -- and print alike, if the answer to a line depends on no more than that
  module _ (answer : List ℕ → List ℕ) (same : (line : List ℕ) → answer (take cap line) ≡ answer line) where
    alike_printed : (l m : List ℕ) → take cap l ≡ take cap m → printed answer l ≡ printed answer m
    unfolding printed
    alike_printed l m e = let q : answer l ≡ answer m = sym (same l) ∙ rw e (same m) in rw q

    alike_at : (l m : List ℕ) (c : ℕ) → take cap l ≡ take cap m → printed_at answer l c ≡ printed_at answer m c
    unfolding printed_at
    alike_at l m c e = rw (alike_printed l m e)

    pub printed_alike : (l m s : List ℕ) → take cap l ≡ take cap m → printed_over answer l s ≡ printed_over answer m s
    unfolding printed_over
    printed_alike l m [] e = refl
    printed_alike l m (c ∷ s) e =
        rw (alike_at l m c e, printed_alike (line_after l c) (line_after m c) s (alike_after l m c e))

    pub kept_last : 0 < cap → (line : List ℕ) → printed_last answer (take cap line) ≡ printed_last answer line
    unfolding printed_last printed
    kept_last some [] = rw (take-nil cap)
    kept_last some (x ∷ l) = go cap refl some
      where
        go : (n : ℕ) → cap ≡ n → 0 < n → printed_last answer (take cap (x ∷ l)) ≡ printed_last answer (x ∷ l)
        go zero e h = absurd (omega arith)
        go (suc n) e h =
            let q : answer (x ∷ take n l) ≡ answer (x ∷ l) = rw e at (same (x ∷ l)) in
            rw (e, q)
