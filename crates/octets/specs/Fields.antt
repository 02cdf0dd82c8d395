-- Numbers of 16 and 32 bits in octets, and places in a text.
use Rattle.std.specs.Prelude.{◌≡◌, refl, List, [], ◌∷◌, ◌++◌, ℕ, zero, suc, ◌+◌, ◌-◌, ◌*◌, ◌/◌, ◌%◌, ◌<◌, ◌≤◌, length, get_or, take, drop}
use Rattle.std.proofs.Common.{sym, ◌∙◌, ap, ap₂, add-zero, add-one, arith, length-append, length-drop, drop-cons, drop-drop, get_or-drop}
use Rattle.std.proofs.Math.Seq.{take-append_seam, drop-append_seam}
use Rattle.octets.specs.Lists.{Octets}
use Rattle.octets.specs.Bits.{All-append}

-- a number in two octets, the high one first; in four octets
abbrev pub be16 : ℕ → List ℕ
be16 n = n / 256 % 256 ∷ n % 256 ∷ []

abbrev pub be32 : ℕ → List ℕ
be32 n = be16 (n / 65536) ++ be16 (n % 65536)

-- the number in the two octets at a place of a text; in the four octets
abbrev pub be16_at : List ℕ → ℕ → ℕ
be16_at s at = get_or s at 0 * 256 + get_or s (at + 1) 0

abbrev pub be32_at : List ℕ → ℕ → ℕ
be32_at s at = be16_at s at * 65536 + be16_at s (at + 2)

-- octets, each by its place
pub octets_known : (s : List ℕ) → ((i : ℕ) → get_or s i 0 < 256) → Octets s
octets_known [] o = tt
octets_known (x ∷ s) o = (o 0, octets_known s (λ i. o (suc i)))

-- ---- places
-- a list without elements
pub empty : (l : List ℕ) → length l ≡ 0 → l ≡ []
empty [] h = refl
empty (x ∷ l) h = absurd (omega arith)

-- a text from the octet at a place on
pub drop_one : (s : List ℕ) (at : ℕ) → at < length s → drop at s ≡ get_or s at 0 ∷ drop (at + 1) s
drop_one s at h = rw (add-one, drop-cons s at 0)

-- what follows `x`, where `x` is at a place
pub drop_past : (s x r : List ℕ) (at : ℕ) → drop at s ≡ x ++ r → drop (at + length x) s ≡ r
drop_past s x r at e = sym (drop-drop (length x) at s) ∙ ap (drop (length x)) e ∙ drop-append_seam x r

pub take-here : (s x r : List ℕ) (at : ℕ) → drop at s ≡ x ++ r → take (length x) (drop at s) ≡ x
take-here s x r at e = ap (take (length x)) e ∙ take-append_seam x r

pub get_d_here : (s r : List ℕ) (y at : ℕ) → drop at s ≡ y ∷ r → get_or s at 0 ≡ y
get_d_here s r y at e = ap (λ i. get_or s i 0) (sym (add-zero at)) ∙ sym (get_or-drop at s 0 0) ∙ ap (λ l. get_or l 0 0) e

pub room-here : (s x r : List ℕ) (at : ℕ) → drop at s ≡ x ++ r → 0 < length x → at + length x ≤ length s
room-here s x r at e h =
    let z : length s - at ≡ length x + length r = sym (length-drop at s) ∙ ap length e ∙ length-append x r in
    omega arith

-- ---- the number back from its octets
pub two_back : (n : ℕ) → n < 65536 → n / 256 % 256 * 256 + n % 256 ≡ n
two_back n h = omega arith

pub two_same : (a b : ℕ) → a < 256 → b < 256 → be16 (a * 256 + b) ≡ a ∷ b ∷ []
two_same a b h k =
    let p : (a * 256 + b) / 256 % 256 ≡ a = omega arith in
    let q : (a * 256 + b) % 256 ≡ b = omega arith in
    ap₂ (λ (x y : ℕ). x ∷ y ∷ []) p q

pub two_at : (s r : List ℕ) (at n : ℕ) → n < 65536 → drop at s ≡ be16 n ++ r → be16_at s at ≡ n
two_at s r at n h e =
    rw (get_d_here s _ _ at e, get_d_here s r (n % 256) (at + 1) (drop_past s (n / 256 % 256 ∷ []) (n % 256 ∷ r) at e))
    (two_back n h)

pub four_at : (s r : List ℕ) (at n : ℕ) → n < 4294967296 → drop at s ≡ be32 n ++ r → be32_at s at ≡ n
four_at s r at n h e =
    rw (
      two_at s (be16 (n % 65536) ++ r) at (n / 65536) (omega arith) e,
      two_at s r (at + 2) (n % 65536) (omega arith) (drop_past s (be16 (n / 65536)) (be16 (n % 65536) ++ r) at e),
    )
    (omega arith)

-- ---- octets
pub two_octets : (n : ℕ) → Octets (be16 n)
two_octets n = (omega arith, (omega arith, tt))

pub four_octets : (n : ℕ) → Octets (be32 n)
four_octets n = All-append (λ x. x < 256) (be16 (n / 65536)) (be16 (n % 65536)) (two_octets (n / 65536))
    (two_octets (n % 65536))

-- an octet of a text, or 0 past its end
pub get_d_octet : (s : List ℕ) → Octets s → (at : ℕ) → get_or s at 0 < 256
get_d_octet [] h at = omega arith
get_d_octet (x ∷ s) h zero = h.0
get_d_octet (x ∷ s) h (suc at) = get_d_octet s h.1 at

pub two_at_word : (s : List ℕ) → Octets s → (at : ℕ) → be16_at s at < 65536
two_at_word s h at = omega (arith, get_d_octet s h at, get_d_octet s h (at + 1))

pub four_at_long : (s : List ℕ) → Octets s → (at : ℕ) → be32_at s at < 4294967296
four_at_long s h at = omega (arith, two_at_word s h at, two_at_word s h (at + 2))
