-- Tables of texts in the code.
use Rattle.std.specs.Prelude.{◌≡◌, refl, Bool, true, false, cond, ℕ, ◌≤◌, T, leb, eqb}
use Rattle.std.proofs.Common.{leb→le}
use mathlib.Core.List.{List, [], ◌∷◌, map}
use Rattle.std.specs.Borrow.{Bor}
use Prim.Native.String.{String}
use native.Mathlib.Omega.{arith}
use Rattle.std.proofs.Math.ListN.{length}
use Rattle.octets.specs.Lists.{ascii, all, key?, row_text}
use Rattle.octets.specs.Bits.{and_left, and_right}

-- the rows with the octets of their texts
abbrev pub texts : List (ℕ × String) → List (ℕ × List ℕ)
texts = map (λ (row : ℕ × String). (row.0, ascii row.1))

-- the rows of a table of the code
abbrev pub held : List (ℕ × Bor (List ℕ)) → List (ℕ × List ℕ)
held = map (λ (row : ℕ × Bor (List ℕ)). (row.0, row.1.now))

-- the key has a row, and this is its text
pub record Named (n : ℕ) (rows : List (ℕ × String)) (text : List ℕ) : Type 0 where
  pub known : key? n rows ≡ true
  pub is : text ≡ row_text n rows

-- no key, no text
pub no_text : (n : ℕ) (rows : List (ℕ × String)) → key? n rows ≡ false → row_text n rows ≡ []
unfolding key? row_text
no_text n [] e = refl
no_text n (row ∷ rows) e = go (no_text n rows) (eqb row.0 n) e
  where
    go : (key? n rows ≡ false → row_text n rows ≡ []) → (a : Bool) → cond a true (key? n rows) ≡ false
        → cond a (ascii row.1) (row_text n rows) ≡ []
    go f true e = let z : ◌≡◌ {A = ℕ} 0 1 = cc in absurd (omega arith)
    go f false e = f e

-- how long a text can be
pub text_short : (k n : ℕ) (rows : List (ℕ × String))
    → T (all (λ (row : ℕ × String). leb (length (ascii row.1)) k) rows)
    → length (row_text n rows) ≤ k
unfolding row_text
text_short k n [] t = omega arith
text_short k n (row ∷ rows) t =
    go (eqb row.0 n) (text_short k n rows (and_right (leb (length (ascii row.1)) k) _ t))
  where
    go : (a : Bool) → length (row_text n rows) ≤ k → length (cond a (ascii row.1) (row_text n rows)) ≤ k
    go true h = leb→le (length (ascii row.1)) k (and_left (leb (length (ascii row.1)) k) _ t)
    go false h = h
