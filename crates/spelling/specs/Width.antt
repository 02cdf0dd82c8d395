-- The width of the spelling of an octet.
use Rattle.std.specs.Prelude.{◌≡◌, refl, Bool, true, false, cond, [], ◌∷◌, ◌++◌, ℕ, ◌≤◌, eqb, length}
use Rattle.std.proofs.Common.{arith}
use Rattle.octets.specs.Lists.{ascii}
use Rattle.spelling.specs.Spelling.{plain?, three_digits, spelled}

-- 1 for an octet that stands for itself, 3 for a dot, 4 for a backslash, 5 for every other
unfoldable pub width : ℕ → ℕ
width x = cond (plain? x) 1 (cond (eqb x 46) 3 (cond (eqb x 92) 4 5))

-- it is the length of the spelling
pub spelled-width : (x : ℕ) → length (spelled x) ≡ width x
unfolding spelled width
spelled-width x = by (plain? x) (eqb x 46) (eqb x 92)
  where
    by : (a b c : Bool)
        → length (cond a (x ∷ []) (cond b (ascii "\\\\.") (cond c (ascii "\\\\\\\\") (ascii "\\\\" ++ three_digits x))))
        ≡ cond a 1 (cond b 3 (cond c 4 5))
    by true b c = refl
    by false true c = refl
    by false false true = refl
    by false false false = refl

-- it is 1 to 5
pub width_range : (x : ℕ) → (1 ≤ width x) × (width x ≤ 5)
unfolding width
width_range x = by (plain? x) (eqb x 46) (eqb x 92)
  where
    by : (a b c : Bool) → (1 ≤ cond a 1 (cond b 3 (cond c 4 5))) × (cond a 1 (cond b 3 (cond c 4 5)) ≤ 5)
    by true b c = omega arith
    by false true c = omega arith
    by false false true = omega arith
    by false false false = omega arith
