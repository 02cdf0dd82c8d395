-- The row of a table that the code finds by its key.
use Rattle.std.proofs.Common.{◌≡◌, refl, sym, ap, Bool, true, false, cond, List, [], ◌∷◌, ℕ, eqb}
use Rattle.std.specs.Prelude.{Option, Some, None, MatchOption, option_map, ◌==◌}
use Rattle.std.specs.Borrow.{Bor}
use Rattle.std.specs.List.{find}
use mathlib.Core.List.{head-eq_of_cons-eq, tail-eq_of_cons-eq}
use Prim.Native.String.{String}
use Rattle.octets.specs.Lists.{ascii, key?, row_text}
use Rattle.edns.specs.Table.{texts, held, Named}

-- the first row with a key, as the code finds it
abbrev pub Row : Type 0
Row = ℕ × Bor (List ℕ)

abbrev pub Finds : ℕ → List (ℕ × String) → Option Row → Type 0
Finds n rows row = MatchOption row (key? n rows ≡ false) (λ row. Named n rows row.1.now)

finds : (n : ℕ) (table : List Row) (rows : List (ℕ × String)) → held table ≡ texts rows
    → Finds n rows (find (λ (row : Row). row.0 == n) table)
unfolding key? row_text
finds n [] [] e = refl
finds n [] (row ∷ rows) e = cc
finds n (x ∷ table) [] e = cc
finds n (x ∷ table) (row ∷ rows) e =
    let head = head-eq_of_cons-eq e in
    go (eqb x.0 n) (ap (λ (r : ℕ × List ℕ). eqb r.0 n) (sym head)) (ap (λ (r : ℕ × List ℕ). r.1) head)
    (finds n table rows (tail-eq_of_cons-eq e))
  where
    later : eqb row.0 n ≡ false → (found : Option Row) → Finds n rows found → Finds n (row ∷ rows) found
    later d None h = rw d h
    later d (Some y) h = record { known = rw d h.known; is = rw d h.is }

    go : (b : Bool) → eqb row.0 n ≡ b → x.1.now ≡ ascii row.1 → Finds n rows (find (λ (row : Row). row.0 == n) table)
        → Finds n (row ∷ rows) (cond b (Some x) (find (λ (row : Row). row.0 == n) table))
    go true d t h = record { known = rw d; is = rw d t }
    go false d t h = later d (find (λ (row : Row). row.0 == n) table) h

pub row_found : (table : List Row) (row : Option (Bor Row)) (n : ℕ) (rows : List (ℕ × String))
    → held table ≡ texts rows → option_map (λ row. row.now) row ≡ find (λ (row : Row). row.0 == n) table
    → MatchOption row (key? n rows ≡ false) (λ row. Named n rows row.now.1.now)
row_found table row n rows e f = go row (rw (← f) at (finds n table rows e))
  where
    go : (row : Option (Bor Row)) → Finds n rows (option_map (λ row. row.now) row)
        → MatchOption row (key? n rows ≡ false) (λ row. Named n rows row.now.1.now)
    go None h = h
    go (Some row) h = h
