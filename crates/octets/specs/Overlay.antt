-- A buffer with a text written over it, and what every writer does to one.
use Rattle.std.specs.Prelude.{◌≡◌, ℕ, suc, ◌+◌, ◌≤◌, ◌<◌, length, get_or, take, drop, set}
use Rattle.std.proofs.Math.Path.{refl}
use Rattle.std.proofs.Common.{sym, ap, ◌∙◌, add-zero, zero-add, add-one, arith, length-set, length-append, take-suc, take_all}
use mathlib.Core.List.{List, [], ◌∷◌, ◌++◌, append_assoc, append-nil}
use Prim.Native.String.{String}
use Rattle.std.proofs.lemmas.List.{set_comm}
use Rattle.std.proofs.lemmas.List.Edits.{sets, sets-eq}
use Rattle.std.proofs.Math.Seq.{set_out, take-append_seam}
use Rattle.octets.specs.Lists.{row_text, ended, each}
use Rattle.octets.specs.Answer.{overwritten}

-- the buffer with a text written from a place on; what has no room is not written, so the buffer keeps its length
unfoldable pub overlay : List ℕ → ℕ → List ℕ → List ℕ
overlay b at [] = b
overlay b at (x ∷ xs) = overlay (set b at x) (at + 1) xs

-- the length stays
pub overlay-length : (b : List ℕ) (at : ℕ) (xs : List ℕ) → length (overlay b at xs) ≡ length b
unfolding overlay
overlay-length b at [] = refl
overlay-length b at (x ∷ xs) = overlay-length (set b at x) (at + 1) xs ∙ length-set b at x

-- the empty text changes nothing
pub overlay_none : (b : List ℕ) (at : ℕ) → overlay b at [] ≡ b
unfolding overlay
overlay_none b at = refl

-- two texts, the second written where the first ends
pub overlay_join : (b : List ℕ) (at : ℕ) (xs ys : List ℕ)
    → overlay (overlay b at xs) (at + length xs) ys ≡ overlay b at (xs ++ ys)
unfolding overlay
overlay_join b at [] ys = rw add-zero
overlay_join b at (x ∷ xs) ys =
    let e : at + suc (length xs) ≡ at + 1 + length xs = omega arith in
    rw e (overlay_join (set b at x) (at + 1) xs ys)

-- past the end nothing is written
pub overlay-past : (b : List ℕ) (at : ℕ) (xs : List ℕ) → length b ≤ at → overlay b at xs ≡ b
unfolding overlay
overlay-past b at [] h = refl
overlay-past b at (x ∷ xs) h =
    let e : set b at x ≡ b = set_out b at x h in
    rw e (overlay-past b (at + 1) xs (omega arith))

-- given room, the buffer is what stood before the text, the text, and what stood after it
overlay_sets : (b : List ℕ) (at : ℕ) (xs : List ℕ) → overlay b at xs ≡ sets b at xs
unfolding overlay
overlay_sets b at [] = refl
overlay_sets b at (x ∷ xs) = rw add-one (overlay_sets (set b at x) (suc at) xs)

pub overlay_fits : (b : List ℕ) (at : ℕ) (xs : List ℕ) → at + length xs ≤ length b
    → overlay b at xs ≡ take at b ++ xs ++ drop (at + length xs) b
unfolding overlay
overlay_fits b at xs h = overlay_sets b at xs ∙ sets-eq xs b at h

-- from the first place on
pub overlay_first : (b xs : List ℕ) → length xs ≤ length b → overlay b 0 xs ≡ overwritten xs b
overlay_first b xs h = overlay_fits b 0 xs (omega arith) ∙ rw zero-add

-- an octet before a text may be written before the text or after it; so may a whole text
set-overlay : (b : List ℕ) (at x n : ℕ) (xs : List ℕ) → at < n → set (overlay b n xs) at x ≡ overlay (set b at x) n xs
unfolding overlay
set-overlay b at x n [] h = refl
set-overlay b at x n (y ∷ xs) h = set-overlay (set b n y) at x (n + 1) xs (omega arith)
    ∙ rw (set_comm b n at y x (λ e. omega arith))

pub overlay_swap : (b : List ℕ) (at n : ℕ) (xs ys : List ℕ) → at + length xs ≤ n
    → overlay (overlay b n ys) at xs ≡ overlay (overlay b at xs) n ys
unfolding overlay
overlay_swap b at n [] ys h = refl
overlay_swap b at n (x ∷ xs) ys h =
    let k : at + suc (length xs) ≤ n = h in
    rw (set-overlay b at x n ys (omega arith)) (overlay_swap (set b at x) (at + 1) n xs ys (omega arith))

-- What every writer does: it finds the buffer `b`, writes `xs` from the place `at` on, leaves the buffer `b'`, and
-- returns the place after the text.
-- The place counts what had no room too.
pub record Wrote (b : List ℕ) (at : ℕ) (xs : List ℕ) (b' : List ℕ) (r : ℕ) : Type 0 where
  pub place : r ≡ at + length xs
  pub text : b' ≡ overlay b at xs

-- one writer after another
pub then : {b b₁ b₂ : List ℕ} {at r₁ r₂ : ℕ} {xs ys : List ℕ} → Wrote b at xs b₁ r₁ → Wrote b₁ r₁ ys b₂ r₂
    → Wrote b at (xs ++ ys) b₂ r₂
then {b} {b₁} {b₂} {at} {r₁} {r₂} {xs} {ys} p q =
    record {
      place = omega (arith, length-append xs ys, p.place, q.place);
      text = q.text ∙ rw (p.text, p.place) (overlay_join b at xs ys);
    }

-- what was written from the first place on, with room for it, is what the buffer begins with
pub first_written : {b b' xs : List ℕ} {r : ℕ} → Wrote b 0 xs b' r → r ≤ length b → take r b' ≡ xs
first_written {b} {b'} {xs} {r} w h =
    let n : r ≡ length xs = omega (arith, w.place) in
    rw (w.text, n, overlay_first b xs (omega arith)) (take-append_seam xs (drop (length xs) b))

-- no octet is written
pub nothing : (b : List ℕ) (at : ℕ) → Wrote b at [] b at
nothing b at = record { place = omega (arith, add-zero at); text = sym (overlay_none b at) }

-- the text of a table's row, written by its key
pub wrote_row : (k : ℕ) (rows : List (ℕ × String)) {n : ℕ} {b b' : List ℕ} {at r : ℕ} → n ≡ k
    → Wrote b at (row_text k rows) b' r → Wrote b at (row_text n rows) b' r
wrote_row k rows e w = rw e w

-- a writer that starts past the end leaves the buffer as it is
pub wrote_past : (b : List ℕ) (at : ℕ) (xs : List ℕ) {r : ℕ} → length b ≤ at → r ≡ at + length xs → Wrote b at xs b r
wrote_past b at xs h e = record { place = e; text = sym (overlay-past b at xs h) }

-- a text written first, and then the octets before it
pub wrote_before : {b b₁ b₂ : List ℕ} {at n r s : ℕ} {xs ys : List ℕ} → n ≡ at + length xs → Wrote b n ys b₁ r
    → Wrote b₁ at xs b₂ s → Wrote b at (xs ++ ys) b₂ r
wrote_before {b} {at = at} {n = n} {xs = xs} {ys = ys} e p q =
    let s : overlay (overlay b n ys) at xs ≡ overlay (overlay b at xs) n ys =
    overlay_swap b at n xs ys (omega (arith, e)) in
    record {
      place = omega (arith, length-append xs ys, p.place, e);
      text = q.text ∙ rw (p.text, s, e) (overlay_join b at xs ys);
    }

-- a writer keeps the buffer's length
pub same_long : {b b' : List ℕ} {at r : ℕ} {xs : List ℕ} → Wrote b at xs b' r → length b' ≡ length b
same_long {b} {b'} {at} {r} {xs} w = ap length w.text ∙ overlay-length b at xs

module _ {A : Type 0} where
  -- of two lists
  pub each_append : (f : A → List ℕ) (l m : List A) → each f (l ++ m) ≡ each f l ++ each f m
  unfolding each
  each_append f [] m = refl
  each_append f (x ∷ l) m = rw (each_append f l m, append_assoc)

  -- of one element
  pub each_single : (f : A → List ℕ) (x : A) → each f (x ∷ []) ≡ f x
  unfolding each
  each_single f x = append-nil (f x)

  -- with an octet after the last
  pub each-ended : (f : A → List ℕ) (stop : ℕ) (l : List A) → ended f stop l ≡ each f l ++ (stop ∷ [])
  unfolding each
  each-ended f stop [] = refl
  each-ended f stop (x ∷ l) = rw (each-ended f stop l, append_assoc)

-- the texts of one element more
pub each_more : (f : ℕ → List ℕ) (s : List ℕ) (i : ℕ) → i < length s
    → each f (take (i + 1) s) ≡ each f (take i s) ++ f (get_or s i 0)
each_more f s i h = rw (add-one, take-suc s i 0, each_append, each_single)

-- a loop that writes the text of one element a turn: before the first turn, after one turn more, and at the end
pub each_start : (f : ℕ → List ℕ) (b : List ℕ) (at : ℕ) → Wrote b at (each f []) b at
unfolding each
each_start f b at = nothing b at

module _ (f : ℕ → List ℕ) (s : List ℕ) where
  pub each_step : {b b₁ b₂ : List ℕ} {at r₁ r₂ i : ℕ} → i < length s → Wrote b at (each f (take i s)) b₁ r₁
      → Wrote b₁ r₁ (f (get_or s i 0)) b₂ r₂ → Wrote b at (each f (take (i + 1) s)) b₂ r₂
  each_step {b} {b₁} {b₂} {at} {r₁} {r₂} {i} h p q = rw (each_more f s i h) (then p q)

  pub each_end : {b b₁ : List ℕ} {at r i : ℕ} → length s ≤ i → Wrote b at (each f (take i s)) b₁ r
      → Wrote b at (each f s) b₁ r
  each_end {b} {b₁} {at} {r} {i} h p = rw (take_all i s h) at p

-- the same for a loop that copies: one turn more
pub copy_step : (s : List ℕ) {b b₁ b₂ : List ℕ} {at r₁ r₂ i : ℕ} → i < length s → Wrote b at (take i s) b₁ r₁
    → Wrote b₁ r₁ (get_or s i 0 ∷ []) b₂ r₂ → Wrote b at (take (i + 1) s) b₂ r₂
copy_step s {i = i} h p q = rw (add-one, take-suc s i 0 h) (then p q)
