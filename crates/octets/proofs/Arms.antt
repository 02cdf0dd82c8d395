-- What a `match` on a number knows in its arms, where the arms are the rows of a table.
use mathlib.Core.Path.{◌≡◌, refl, sym, ap, ◌∙◌, subst}
use mathlib.Core.Bool.{Bool, true, false, ◌||◌}
use mathlib.Core.Option.{none}
use mathlib.Core.List.{List, [], ◌∷◌, map}
use Prim.Native.Nat.{ℕ, zero, suc, ◌+◌, ◌≤◌, ◌<◌}
use native.Mathlib.Omega.{arith}
use borrow.Author.Tests.{le-ltb, ne_eqb, eqb-true, eqb-false}
use lib.Dec.{T, ltb, eqb}
use mir.Val.{has_key}
use types.Run.{OneOf, hit}
use Rattle.octets.specs.Lists.{all, All, lookup}
use Rattle.octets.specs.Bits.{and_left, and_right}

-- ---- an arm
-- the numbers from `low` on
abbrev pub up_from : ℕ → ℕ → List ℕ
up_from low zero = []
up_from low (suc n) = low ∷ up_from (low + 1) n

-- what holds of each number of a range holds of a number within it
pub ranged : (P : ℕ → Type 0) (low n : ℕ) → All P (up_from low n) → (k : ℕ) → low ≤ k → k < low + n → P k
ranged P low zero h k i j = absurd (omega arith)
ranged P low (suc n) h k i j = go (eqb k low) refl (λ d. ranged P (low + 1) n h.1 k (omega arith) (omega arith))
  where
    go : (b : Bool) → eqb k low ≡ b → ((k ≡ low → ⊥) → P k) → P k
    go true e f = subst P (sym (eqb-true k low e)) h.0
    go false e f = f (eqb-false k low e)

-- ---- the default arm
-- the number is a key of none of the arms before; X is what was known before the match
abbrev pub Missed : Type 0 → ℕ → List (List ℕ) → Type 0
Missed X n [] = X
Missed X n (keys ∷ arms) = Missed (X × (OneOf keys n → ⊥)) n arms

-- the arms of a match with one arm for each row of a table
abbrev pub arms_of : {A : Type 0} → List (ℕ × A) → List (List ℕ)
arms_of rows = map (λ row. row.0 ∷ []) rows

-- a key of some arm
abbrev pub keyed? : List (List ℕ) → ℕ → Bool
keyed? [] n = false
keyed? (keys ∷ arms) n = has_key keys n || keyed? arms n

missed_first : (X : Type 0) (n : ℕ) (arms : List (List ℕ)) → Missed X n arms → X
missed_first X n [] h = h
missed_first X n (keys ∷ arms) h = (missed_first (X × (OneOf keys n → ⊥)) n arms h).0

pub missed_key : (X : Type 0) (n : ℕ) (arms : List (List ℕ)) → Missed X n arms → keyed? arms n ≡ false
missed_key X n [] h = refl
missed_key X n (keys ∷ arms) h = go (has_key keys n) refl (missed_key (X × (OneOf keys n → ⊥)) n arms h)
  where
    go : (b : Bool) → has_key keys n ≡ b → keyed? arms n ≡ false → (b || keyed? arms n) ≡ false
    go true e f = absurd ((missed_first (X × (OneOf keys n → ⊥)) n arms h).1 (hit keys n (subst T (sym e) tt)))
    go false e f = f

module _ {A : Type 0} where
  -- a number that fails a test which every key of a table passes has no row
  pub failed_row : (test : ℕ → Bool) (n : ℕ) (rows : List (ℕ × A)) → T (all (λ (row : ℕ × A). test row.0) rows)
      → test n ≡ false → lookup n rows ≡ none
  unfolding lookup
  failed_row test n [] t h = refl
  failed_row test n (row ∷ rows) t h =
      let rest = all (λ (row : ℕ × A). test row.0) rows in
      let passed = and_left (test row.0) rest t in
      rw (ne_eqb row.0 n (λ e. subst T (ap test e ∙ h) passed))
      (failed_row test n rows (and_right (test row.0) rest t) h)

  -- nor has one that no arm has, if the arms have all keys
  pub missed_row : (X : Type 0) (n : ℕ) (arms : List (List ℕ)) (rows : List (ℕ × A))
      → T (all (λ (row : ℕ × A). keyed? arms row.0) rows) → Missed X n arms → lookup n rows ≡ none
  missed_row X n arms rows t h = failed_row (keyed? arms) n rows t (missed_key X n arms h)

  -- nor one past all keys
  pub past-rows : (m n : ℕ) (rows : List (ℕ × A)) → T (all (λ (row : ℕ × A). ltb row.0 m) rows) → m ≤ n
      → lookup n rows ≡ none
  past-rows m n rows t h = failed_row (λ k. ltb k m) n rows t (le-ltb n m h)
