-- How much of a piece is taken, line by line, and what holds from line to line.
use Rattle.std.specs.Prelude.{◌⊎◌, ◌==◌, cond, None, Some}
use Rattle.std.proofs.Common.{inl, inr, take_all}
use Rattle.std.specs.List.{position, position_or_len}
use Rattle.std.specs.Option.{unwrap_or}
use Rattle.std.proofs.lemmas.List.Recursion.{is_position_or_len}
use mathlib.Core.Path.{◌≡◌, refl, sym, ap, ◌∙◌}
use mathlib.Core.Bool.{Bool, true, false}
use mathlib.Core.List.{List, [], ◌∷◌, ◌++◌, append_assoc, append-nil}
use Prim.Native.Nat.{ℕ, suc, ◌+◌, ◌-◌, ◌≤◌, ◌<◌}
use native.Mathlib.Nat.{add-zero, zero-add, suc-add}
use native.Mathlib.Omega.{arith}
use borrow.Author.Tests.{eqb-true, lt-ltb, le-ltb}
use borrow.Author.Tests.{ltb-false}
use lib.Dec.{eqb, ltb}
use lib.ListN.{length, take, drop, length-drop}
use lib.Seq.{take-add, drop-drop}
use Rattle.octets.specs.Overlay.{Wrote, nothing, then, same_long}
use Rattle.line_answers.specs.Answers.{printed}
use Rattle.lines.specs.Reading.{line_after, printed_at, so_far, printed_over, printed-pieces, so_far_pieces}
use Rattle.lines.specs.Programs.{most_kept, answer_room}
use Rattle.lines.specs.Pieces.{taken_of, Answers, line_length}
use Rattle.lines.proofs.Keeping.{part_wrote}

-- ---- one octet
module _ (c : ℕ) where
  end_line : (line : List ℕ) → eqb c 10 ≡ true → line_after line c ≡ []
  unfolding line_after
  end_line line e = rw e

  other_line : (line : List ℕ) → eqb c 10 ≡ false → line_after line c ≡ line ++ (c ∷ [])
  unfolding line_after
  other_line line e = rw e

  end_printed : (answer : List ℕ → List ℕ) (line : List ℕ) → eqb c 10 ≡ true
      → printed_at answer line c ≡ printed answer line
  unfolding printed_at
  end_printed answer line e = rw e

  other_printed : (answer : List ℕ → List ℕ) (line : List ℕ) → eqb c 10 ≡ false → printed_at answer line c ≡ []
  unfolding printed_at
  other_printed answer line e = rw e

  end_length : (s : List ℕ) → eqb c 10 ≡ true → line_length (c ∷ s) ≡ 0
  unfolding line_length
  end_length s e = rw e

  other_length : (s : List ℕ) → eqb c 10 ≡ false → line_length (c ∷ s) ≡ suc (line_length s)
  unfolding line_length
  other_length s e = rw e

-- ---- the octets before the first 10
-- print nothing
printed_none : (answer : List ℕ → List ℕ) (line s : List ℕ) → printed_over answer line (take (line_length s) s) ≡ []
unfolding printed_over line_length
printed_none answer line [] = refl
printed_none answer line (c ∷ s) = go (eqb c 10) refl (printed_none answer (line_after line c) s)
  where
    go : (b : Bool) → eqb c 10 ≡ b → printed_over answer (line_after line c) (take (line_length s) s) ≡ []
        → printed_over answer line (take (line_length (c ∷ s)) (c ∷ s)) ≡ []
    go true e p = rw (end_length c s e)
    go false e p = rw (other_length c s e, other_printed c answer line e, p)

-- join the line
so_far_none : (line s : List ℕ) → so_far line (take (line_length s) s) ≡ line ++ take (line_length s) s
unfolding so_far line_length
so_far_none line [] = sym (append-nil line)
so_far_none line (c ∷ s) = go (eqb c 10) refl (so_far_none (line ++ (c ∷ [])) s)
  where
    go : (b : Bool) → eqb c 10 ≡ b
        → so_far (line ++ (c ∷ [])) (take (line_length s) s) ≡ line ++ (c ∷ []) ++ take (line_length s) s
        → so_far line (take (line_length (c ∷ s)) (c ∷ s)) ≡ line ++ take (line_length (c ∷ s)) (c ∷ s)
    go true e p = rw (end_length c s e) (sym (append-nil line))
    go false e p =
        let q : so_far (line_after line c) (take (line_length s) s) ≡ line ++ (c ∷ take (line_length s) s) =
        rw (other_line c line e, p, append_assoc) in
        rw (other_length c s e) q

-- are taken
taken_rest : (answer : List ℕ → List ℕ) (room : ℕ) (line s : List ℕ) → length s ≤ line_length s
    → taken_of answer room line s ≡ line_length s
unfolding taken_of line_length
taken_rest answer room line [] h = refl
taken_rest answer room line (c ∷ s) h =
    go (eqb c 10) refl (taken_rest answer (room - length (printed_at answer line c)) (line_after line c) s)
  where
    go : (b : Bool) → eqb c 10 ≡ b
        → (length s ≤ line_length s
        → taken_of answer (room - length (printed_at answer line c)) (line_after line c) s ≡ line_length s)
        → taken_of answer room line (c ∷ s) ≡ line_length (c ∷ s)
    go true e p = let k : suc (length s) ≤ 0 = rw (end_length c s e) at h in absurd (omega arith)
    go false e p =
        let k : suc (length s) ≤ suc (line_length s) = rw (other_length c s e) at h in
        rw (other_length c s e, e, p (omega arith))

-- and no more, if there is no room for the answer
taken_before : (answer : List ℕ → List ℕ) (room : ℕ) (line s : List ℕ) → room < answer_room
    → taken_of answer room line s ≡ line_length s
unfolding taken_of line_length
taken_before answer room line [] h = refl
taken_before answer room line (c ∷ s) h =
    go (eqb c 10) refl
    (taken_before answer (room - length (printed_at answer line c)) (line_after line c) s (omega arith))
  where
    go : (b : Bool) → eqb c 10 ≡ b
        → taken_of answer (room - length (printed_at answer line c)) (line_after line c) s ≡ line_length s
        → taken_of answer room line (c ∷ s) ≡ line_length (c ∷ s)
    go true e p = rw (end_length c s e, e, lt-ltb room answer_room h)
    go false e p = rw (other_length c s e, e, p)

-- ---- with room, a line that ends in the piece is answered
taken_line : (answer : List ℕ → List ℕ) (room : ℕ) (line s : List ℕ) → answer_room ≤ room → line_length s < length s
    → taken_of answer room line s ≡ line_length s + suc (taken_of answer
    (room - length (printed answer (line ++ take (line_length s) s))) [] (drop (suc (line_length s)) s))
unfolding taken_of line_length
taken_line answer room line [] k h = absurd (omega arith)
taken_line answer room line (c ∷ s) k h =
    go (eqb c 10) refl (taken_line answer room (line ++ (c ∷ [])) s k)
  where
    go : (b : Bool) → eqb c 10 ≡ b
        → (line_length s < length s → taken_of answer room (line ++ (c ∷ [])) s ≡ line_length s + suc (taken_of answer
        (room - length (printed answer (line ++ (c ∷ []) ++ take (line_length s) s))) [] (drop (suc (line_length s)) s)))
        → taken_of answer room line (c ∷ s) ≡ line_length (c ∷ s) + suc (taken_of answer
        (room - length (printed answer (line ++ take (line_length (c ∷ s)) (c ∷ s)))) []
        (drop (suc (line_length (c ∷ s))) (c ∷ s)))
    go true e p =
        rw (
          end_length c s e,
          e,
          le-ltb room answer_room k,
          end_printed c answer line e,
          end_line c line e,
          append-nil,
          zero-add,
        )
    go false e p =
        let j : suc (line_length s) < suc (length s) = rw (other_length c s e) at h in
        let z : room - 0 ≡ room = omega arith in
        rw (other_length c s e, e, other_printed c answer line e, other_line c line e, z, p (omega arith), append_assoc)
        (sym (suc-add _ _))

-- its octets, its end, and what is taken after it
take_line : (s : List ℕ) (m : ℕ) → line_length s < length s
    → take (line_length s + suc m) s ≡ take (line_length s) s ++ (10 ∷ take m (drop (suc (line_length s)) s))
unfolding line_length
take_line [] m h = absurd (omega arith)
take_line (c ∷ s) m h = go (eqb c 10) refl (take_line s m)
  where
    go : (b : Bool) → eqb c 10 ≡ b
        → (line_length s < length s
        → take (line_length s + suc m) s ≡ take (line_length s) s ++ (10 ∷ take m (drop (suc (line_length s)) s)))
        → take (line_length (c ∷ s) + suc m) (c ∷ s)
        ≡ take (line_length (c ∷ s)) (c ∷ s) ++ (10 ∷ take m (drop (suc (line_length (c ∷ s))) (c ∷ s)))
    go true e p = rw (end_length c s e, eqb-true c 10 e, zero-add)
    go false e p =
        let k : suc (line_length s) < suc (length s) = rw (other_length c s e) at h in
        rw (other_length c s e, suc-add) (ap (λ l. c ∷ l) (p (omega arith)))

-- ---- where a line ends
line_length-is : (s : List ℕ) → line_length s ≡ position_or_len (λ c. c == 10) s
unfolding line_length
line_length-is =
    is_position_or_len line_length (λ c. c == 10) refl
    (λ c s. let e : suc (line_length s) ≡ 1 + line_length s = omega arith in rw e)

pub line_length-le : (s : List ℕ) → line_length s ≤ length s
unfolding line_length
line_length-le [] = omega arith
line_length-le (c ∷ s) = go (eqb c 10) (line_length-le s)
  where
    go : (b : Bool) → line_length s ≤ length s → cond b 0 (suc (line_length s)) ≤ suc (length s)
    go true h = omega arith
    go false h = omega arith

pub line_end-is : (s : List ℕ) {end : ℕ} → end ≡ unwrap_or (position (λ c. c == 10) s) (length s)
    → end ≡ line_length s
line_end-is s e = e ∙ go (position_or_len (λ c. c == 10) s) (line_length-is s) (line_length-le s)
  where
    go : (n : ℕ) → line_length s ≡ n → line_length s ≤ length s
        → unwrap_or (cond (ltb n (length s)) (Some n) None) (length s) ≡ line_length s
    go n q h = by (ltb n (length s)) refl
      where
        by : (b : Bool) → ltb n (length s) ≡ b → unwrap_or (cond b (Some n) None) (length s) ≡ line_length s
        by true k = sym q
        by false k = let m : length s ≤ n = ltb-false n (length s) k in omega arith

-- ---- what holds from line to line: all before `at` is taken, and what is printed over it is written
module _ (answer : List ℕ → List ℕ) (start input out₀ : List ℕ) where
  pub record Taking (line out : List ℕ) (at size : ℕ) : Type 0 where
    pub rest : taken_of answer (length out₀) start input
        ≡ at + taken_of answer (length out₀ - size) line (drop at input)
    pub wrote : Wrote out₀ 0 (printed_over answer start (take at input)) out size
    pub kept : so_far start (take at input) ≡ line
    pub fits : size ≤ length out₀

  pub taking_start : Taking start out₀ 0 0
  unfolding printed_over so_far
  taking_start =
      let z : length out₀ - 0 ≡ length out₀ = omega arith in
      record { rest = rw (z, zero-add); wrote = nothing out₀ 0; kept = refl; fits = omega arith }

-- ---- a line that ends in the piece
module _ (answer : List ℕ → List ℕ) (line s : List ℕ) (h : line_length s < length s) where
  one_more : take (line_length s + 1) s ≡ take (line_length s) s ++ (10 ∷ [])
  one_more = take_line s 0 h

  line_printed : printed_over answer line (take (line_length s + 1) s) ≡ printed answer (line ++ take (line_length s) s)
  unfolding printed_over printed_at
  line_printed =
      rw (
        one_more,
        printed-pieces answer line (take (line_length s) s) (10 ∷ []),
        printed_none answer line s,
        so_far_none line s,
      ) (append-nil _)

  line_over : so_far line (take (line_length s + 1) s) ≡ []
  unfolding so_far line_after
  line_over = rw (one_more, so_far_pieces line (take (line_length s) s) (10 ∷ []))

-- what is left of the input
pub rest-is : (at : ℕ) (input : List ℕ) → take (length input - at) (drop at input) ≡ drop at input
rest-is at input = take_all (length input - at) (drop at input) (omega (arith, length-drop at input))

module _ (answer : List ℕ → List ℕ) (start input out₀ : List ℕ) {line out : List ℕ} {at size : ℕ}
    (p : Taking answer start input out₀ line out at size) {n : ℕ} (e : n ≡ line_length (drop at input)) where
  long : length out ≡ length out₀
  long = same_long p.wrote

  -- the octets up to the end of the line, and some more
  to_end : (k : ℕ) → take (at + (n + k)) input ≡ take at input ++ take (line_length (drop at input) + k) (drop at input)
  to_end k = rw e (take-add at (line_length (drop at input) + k) input)

  -- what is printed over them, and the line after them
  over_end : (k : ℕ) → printed_over answer start (take (at + (n + k)) input) ≡ printed_over answer start (take at input)
      ++ printed_over answer line (take (line_length (drop at input) + k) (drop at input))
  over_end k =
      rw (
        to_end k,
        printed-pieces answer start (take at input) (take (line_length (drop at input) + k) (drop at input)),
        p.kept,
      )

  after_end : (k : ℕ) → so_far start (take (at + (n + k)) input)
      ≡ so_far line (take (line_length (drop at input) + k) (drop at input))
  after_end k =
      rw (
        to_end k,
        so_far_pieces start (take at input) (take (line_length (drop at input) + k) (drop at input)),
        p.kept,
      )

  -- a line that is answered, in the room for the longest answer
  span : size + answer_room - size ≡ answer_room
  span = omega arith

  pub taking_line : n < length (drop at input) → answer_room ≤ length out - size → {t : List ℕ} {r : ℕ}
      → r ≤ answer_room
      → Wrote (take (size + answer_room - size) (drop size out)) 0 (printed answer (line ++ take n (drop at input))) t r
      → Taking answer start input out₀ []
      (take size out ++ (t ++ drop (size + answer_room - size) (drop size out))) (at + (n + 1)) (size + r)
  taking_line before room {t} {r} k a =
      let rest = drop at input in
      let m = line_length rest in
      let inside : m < length rest = omega (arith, e) in
      let whole = printed answer (line ++ take m rest) in
      let a' : Wrote (take (size + answer_room - size) (drop size out)) 0 whole t r = rw e at a in
      let q = taken_line answer (length out₀ - size) line rest (omega (arith, long)) inside in
      let o : at + suc m ≡ at + (n + 1) = omega (arith, e) in
      let d : drop (suc m) rest ≡ drop (at + (n + 1)) input = drop-drop (suc m) at input ∙ ap (λ l. drop l input) o in
      let left : length out₀ - size - length whole ≡ length out₀ - (size + r) = omega (arith, a'.place) in
      let v = part_wrote out size (size + answer_room - size) whole (omega (arith, span))
      (omega (arith, span, a'.place)) a' in
      record {
        rest = p.rest ∙ rw (q, d, left) (omega (arith, e));
        wrote = rw (over_end 1, line_printed answer line rest inside) (then p.wrote v);
        kept = after_end 1 ∙ line_over answer line rest inside;
        fits = omega (arith, long);
      }

  -- a line that waits
  pub taking_end : (length (drop at input) ≤ n) ⊎ (length out - size < answer_room) → {line' : List ℕ}
      → line' ≡ take most_kept (line ++ take n (drop at input))
      → Answers answer start input out₀ line' out (at + n) size
  taking_end t q =
      let rest = drop at input in
      let m = line_length rest in
      let z : n + 0 ≡ n = add-zero n in
      let y : m + 0 ≡ m = add-zero m in
      let over : printed_over answer start (take (at + n) input) ≡ printed_over answer start (take at input) =
      rw (z, y, printed_none answer line rest, append-nil) at (over_end 0) in
      let after : so_far start (take (at + n) input) ≡ line ++ take m rest =
      (rw (z, y) at (after_end 0)) ∙ so_far_none line rest in
      let none : taken_of answer (length out₀ - size) line rest ≡ m = none_more t in
      record {
        took = sym (p.rest ∙ rw none (omega (arith, e)));
        wrote = rw over p.wrote;
        kept = q ∙ rw (after, e);
        fits = p.fits;
      }
    where
      none_more : (length (drop at input) ≤ n) ⊎ (length out - size < answer_room)
          → taken_of answer (length out₀ - size) line (drop at input) ≡ line_length (drop at input)
      none_more (inl k) = taken_rest answer (length out₀ - size) line (drop at input) (omega (arith, e))
      none_more (inr k) = taken_before answer (length out₀ - size) line (drop at input) (omega (arith, long))
