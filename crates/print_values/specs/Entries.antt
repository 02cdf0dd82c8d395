-- Lists of numbers, entry by entry: a number for each octet, or for each two octets.
use Rattle.std.specs.Prelude.{◌≡◌, refl, Bool, true, false, cond, List, [], ◌∷◌, ◌++◌, ℕ, ◌≤◌, ◌<◌, eqb, length, get_or}
use Rattle.std.proofs.Common.{arith}
use Rattle.octets.specs.Lists.{ended}
use Rattle.octets.specs.Fields.{be16_at}
use Rattle.octets.specs.Decimal.{decimal}
use Rattle.options.specs.Options.{words}

-- ---- numbers of one or two octets each
pub record Width (w : ℕ) : Type 0 where
  pub low : 1 ≤ w
  pub high : w ≤ 2

-- the numbers in octets; of an odd octet at the end nothing is made
abbrev pub numbers : ℕ → List ℕ → List ℕ
numbers w s = cond (eqb w 2) (words s) s

-- the number at a place
abbrev pub number_at : ℕ → List ℕ → ℕ → ℕ
number_at w s i = cond (eqb w 2) (be16_at s i) (get_or s i 0)

-- the entries after the first, and the bracket
abbrev pub entries : List ℕ → List ℕ
entries = ended (λ n. 44 ∷ decimal n) 93

-- the number of an entry and those after it
pub numbers_more : {w : ℕ} {s : List ℕ} → Width w → (x r : List ℕ) → s ≡ x ++ r → length x ≡ w
    → numbers w s ≡ number_at (length x) x 0 ∷ numbers w r
unfolding words
numbers_more k [] r d e = absurd (omega (arith, k.low))
numbers_more k (a ∷ []) r d e = rw (d, ← e)
numbers_more k (a ∷ b ∷ []) r d e = rw (d, ← e)
numbers_more k (a ∷ b ∷ c ∷ x) r d e = absurd (omega (arith, k.high))

-- fewer octets make none
pub no_number : {w : ℕ} → Width w → (s : List ℕ) → length s < w → numbers w s ≡ []
unfolding words
no_number {w} k [] h = by (eqb w 2)
  where
    by : (b : Bool) → cond {A = List ℕ} b [] [] ≡ []
    by true = refl
    by false = refl
no_number {w} k (x ∷ []) h = let e : w ≡ 2 = omega (arith, k.high) in rw e
no_number k (x ∷ y ∷ s) h = absurd (omega (arith, k.high))
