-- Octets in hexadecimal: two digits an octet, in capitals.
use Rattle.std.specs.Prelude.{◌≡◌, refl, Bool, true, false, List, [], ◌∷◌, ℕ, zero, suc, ◌+◌, ◌*◌, ◌/◌, ◌%◌, ◌≤◌, ◌<◌, ltb, length, get_or, take, drop}
use Rattle.std.specs.Coded.{×_prop, Unit-prop, le_prop}
use Rattle.std.proofs.Math.Seq.{drop-nil}
use Rattle.std.proofs.lemmas.List.{take_all}
use Rattle.std.proofs.Common.{sym, ap, ap₂, ◌∙◌, subst, arith, lt-ltb, le-ltb, ltb-true, ltb-false}
use Rattle.octets.specs.Lists.{digit_value, paired, All, Octets, each}
use Rattle.octets.specs.Hexadecimal.{hex_of, hex_digit, hex_octet, hex_digit_in}

-- h is hexadecimal digits, two an octet: its octets are `paired h`
pub record Hexes (h : List ℕ) : Type 0 where
  pub range : Octets (paired h)
  pub spelled : h ≡ each hex_octet (paired h)

-- each octet is one in one way only
pub Octets-prop : (l : List ℕ) → IsProp (Octets l)
Octets-prop [] = Unit-prop
Octets-prop (x ∷ l) = ×_prop le_prop (Octets-prop l)

-- ---- octets and their digits
-- the number that a digit was made of
digit_back : (n : ℕ) → n < 16 → digit_value (hex_digit n) ≡ n
digit_back n h = go (ltb n 10) refl
  where
    go : (b : Bool) → ltb n 10 ≡ b → digit_value (hex_of b n) ≡ n
    go true e =
        let z = ltb-true n 10 e in
        let k : 48 + n < 58 = omega arith in
        rw (lt-ltb (48 + n) 58 k) (omega arith)
    go false e =
        let z = ltb-false n 10 e in
        let k : 58 ≤ 55 + n = omega arith in
        rw (le-ltb (55 + n) 58 k) (omega arith)

-- the octets of the digits of octets
pub paired_hexes : (l : List ℕ) → Octets l → paired (each hex_octet l) ≡ l
unfolding each
paired_hexes [] h = refl
paired_hexes (x ∷ l) h =
    let e : x / 16 * 16 + x % 16 ≡ x = omega arith in
    ap₂ (λ (y : ℕ) (m : List ℕ). y ∷ m)
    (ap₂ (λ (a b : ℕ). a * 16 + b) (digit_back (x / 16) (omega (arith, h.0))) (digit_back (x % 16) (omega arith)) ∙ e)
    (paired_hexes l h.1)

-- so the digits of octets are hexadecimal
pub hexes : (l : List ℕ) → Octets l → Hexes (each hex_octet l)
hexes l h =
    let e = paired_hexes l h in
    record { range = subst Octets (sym e) h; spelled = ap (each hex_octet) (sym e) }

-- ---- how many octets there are
pub paired_half : (h : List ℕ) → length (paired h) ≡ length h / 2
paired_half [] = refl
paired_half (x ∷ []) = refl
paired_half (x ∷ y ∷ l) = let e = paired_half l in omega arith

-- there are at most as many as digits
pub octets_short : (h : List ℕ) → length (paired h) ≤ length h
octets_short h = omega (arith, paired_half h)

-- ---- the first n octets
take_octets : (n : ℕ) (l : List ℕ) → Octets l → Octets (take n l)
take_octets zero l h = tt
take_octets (suc n) [] h = tt
take_octets (suc n) (x ∷ l) h = (h.0, take_octets n l h.1)

take_digits : (n : ℕ) (l : List ℕ) → take (2 * n) (each hex_octet l) ≡ each hex_octet (take n l)
unfolding each
take_digits zero l = refl
take_digits (suc n) [] = take_all (2 * suc n) [] (omega arith)
take_digits (suc n) (x ∷ l) =
    let e : 2 * suc n ≡ suc (suc (2 * n)) = omega arith in
    rw e (ap (λ (m : List ℕ). hex_digit (x / 16) ∷ hex_digit (x % 16) ∷ m) (take_digits n l))

-- their digits are hexadecimal
pub hexes_first : {h : List ℕ} → Hexes h → (n : ℕ) → Hexes (take (2 * n) h)
hexes_first {h} x n =
    let e : take (2 * n) h ≡ each hex_octet (take n (paired h)) =
    ap (take (2 * n)) x.spelled ∙ take_digits n (paired h) in
    subst Hexes (sym e) (hexes (take n (paired h)) (take_octets n (paired h) x.range))

pub paired_first : {h : List ℕ} → Hexes h → (n : ℕ) → paired (take (2 * n) h) ≡ take n (paired h)
paired_first {h} x n =
    ap (λ l. paired (take (2 * n) l)) x.spelled ∙ ap paired (take_digits n (paired h))
    ∙ paired_hexes (take n (paired h)) (take_octets n (paired h) x.range)

-- ---- the octets after the first n
drop_octets : (n : ℕ) (l : List ℕ) → Octets l → Octets (drop n l)
drop_octets zero l h = h
drop_octets (suc n) [] h = h
drop_octets (suc n) (x ∷ l) h = drop_octets n l h.1

drop_digits : (n : ℕ) (l : List ℕ) → drop (2 * n) (each hex_octet l) ≡ each hex_octet (drop n l)
unfolding each
drop_digits zero l = refl
drop_digits (suc n) [] = drop-nil (2 * suc n)
drop_digits (suc n) (x ∷ l) = let e : 2 * suc n ≡ suc (suc (2 * n)) = omega arith in rw e (drop_digits n l)

-- their digits are hexadecimal
pub hexes_after : {h : List ℕ} → Hexes h → (n : ℕ) → Hexes (drop (2 * n) h)
hexes_after {h} x n =
    let e : drop (2 * n) h ≡ each hex_octet (drop n (paired h)) =
    ap (drop (2 * n)) x.spelled ∙ drop_digits n (paired h) in
    subst Hexes (sym e) (hexes (drop n (paired h)) (drop_octets n (paired h) x.range))

pub paired_after : {h : List ℕ} → Hexes h → (n : ℕ) → paired (drop (2 * n) h) ≡ drop n (paired h)
paired_after {h} x n =
    ap (λ l. paired (drop (2 * n) l)) x.spelled ∙ ap paired (drop_digits n (paired h))
    ∙ paired_hexes (drop n (paired h)) (drop_octets n (paired h) x.range)

-- ---- the octet at a place
-- every digit is one of 0 to 9 and A to F
abbrev Digit : ℕ → Type 0
Digit c = (48 ≤ c) × (c ≤ 70)

digits_in : (l : List ℕ) → Octets l → All Digit (each hex_octet l)
unfolding each
digits_in [] h = tt
digits_in (x ∷ l) h =
    (hex_digit_in (x / 16) (omega (arith, h.0)), (hex_digit_in (x % 16) (omega arith), digits_in l h.1))

all_at : (l : List ℕ) → All Digit l → (j : ℕ) → j < length l → Digit (get_or l j 0)
all_at [] h j k = absurd (omega arith)
all_at (x ∷ l) h zero k = h.0
all_at (x ∷ l) h (suc j) k = all_at l h.1 j (omega arith)

pub digit_at : {h : List ℕ} → Hexes h → (j : ℕ) → j < length h → (48 ≤ get_or h j 0) × (get_or h j 0 ≤ 70)
digit_at {h} x j k = all_at h (subst (All Digit) (sym x.spelled) (digits_in (paired h) x.range)) j k

-- its two digits
pub paired_at : (h : List ℕ) (i : ℕ) → i < length (paired h)
    → get_or (paired h) i 0 ≡ digit_value (get_or h (2 * i) 0) * 16 + digit_value (get_or h (2 * i + 1) 0)
paired_at [] i k = absurd (omega arith)
paired_at (x ∷ []) i k = absurd (omega arith)
paired_at (x ∷ y ∷ l) zero k = refl
paired_at (x ∷ y ∷ l) (suc i) k =
    let e : 2 * suc i ≡ suc (suc (2 * i)) = omega arith in
    let f : 2 * suc i + 1 ≡ suc (suc (2 * i + 1)) = omega arith in
    rw (f, e) (paired_at l i (omega arith))
