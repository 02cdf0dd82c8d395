-- Octets in hexadecimal, in capitals.
use Rattle.std.specs.Prelude.{◌≡◌, refl, Bool, true, false, not, ◌&&◌, ℕ, ◌+◌, ◌-◌, ◌*◌, ◌/◌, ◌%◌, ◌<◌, ◌≤◌, T, leb, ltb, eqb}
use Rattle.std.proofs.Common.{sym, ap, subst, arith, ltb-false, leb→le, le→leb, lt→ltb, ltb→lt}
use mathlib.Core.List.{List, [], ◌∷◌, ◌++◌, head-eq_of_cons-eq}
use Rattle.std.proofs.Math.Dec.{not_T}
use Rattle.std.proofs.Math.Arith.{le→nltb}
use Rattle.octets.specs.Lists.{All, Octets, ended}
use Rattle.octets.specs.Bits.{is_true, is_false, both, and_left, and_right}
use Rattle.octets.specs.Parsed.{Parsed, parsed, failed, Holds, missed, found}
use Rattle.octets.specs.Codec.{Avoids, Any, Codec, fronts, iso, many, ◌▷◌, ◌⊗◌}
use Rattle.octets.specs.Decimal.{digit?, digit_in, digit_test}

-- the digit of a number below 16
abbrev pub hex_of : Bool → ℕ → ℕ
hex_of true n = 48 + n
hex_of false n = 55 + n

abbrev pub hex_digit : ℕ → ℕ
hex_digit n = hex_of (ltb n 10) n

-- an octet in two digits, the high one first
abbrev pub hex_octet : ℕ → List ℕ
hex_octet x = hex_digit (x / 16) ∷ hex_digit (x % 16) ∷ []

-- octets in hexadecimal, in quotes
unfoldable pub hex_text : List ℕ → List ℕ
hex_text l = 34 ∷ ended hex_octet 34 l

-- a digit from A to F
abbrev pub capital? : ℕ → Bool
capital? c = leb 65 c && ltb c 71

-- one digit
unfoldable pub unhex : List ℕ → Parsed ℕ
unhex [] = failed []
unhex (c ∷ t) = elim (digit? c) [
  | true ↦ parsed (c - 48) t
  | false ↦ elim (capital? c) [ true ↦ parsed (c - 55) t | false ↦ failed (c ∷ t) ]
]

-- a digit is one of 0 to 9 and A to F
pub hex_digit_in : (n : ℕ) → n < 16 → (48 ≤ hex_digit n) × (hex_digit n ≤ 70)
hex_digit_in n h = go (ltb n 10) refl
  where
    go : (b : Bool) → ltb n 10 ≡ b → (48 ≤ hex_of b n) × (hex_of b n ≤ 70)
    go true e = let z = ltb→lt n 10 (subst T (sym e) tt) in (omega arith, omega arith)
    go false e = (omega arith, omega arith)

pub unhex_back : (n : ℕ) (r : List ℕ) → n < 16 → unhex (hex_digit n ∷ r) ≡ parsed n r
unfolding unhex
unhex_back n r h = go (ltb n 10) refl
  where
    go : (b : Bool) → ltb n 10 ≡ b → unhex (hex_of b n ∷ r) ≡ parsed n r
    go true e =
        let z = ltb→lt n 10 (subst T (sym e) tt) in
        let y : 48 + n - 48 ≡ n = omega arith in
        rw (is_true (digit? (48 + n)) (digit_test (48 + n) (omega arith) (omega arith)), unhex, y)
    go false e =
        let z = ltb-false n 10 e in
        let y : 55 + n - 55 ≡ n = omega arith in
        rw (
          is_false (digit? (55 + n)) (not_T (digit? (55 + n)) λ t. above (digit_in (55 + n) t)),
          unhex,
          is_true (capital? (55 + n)) (both (leb 65 (55 + n)) (ltb (55 + n) 71) (le→leb 65 (55 + n) (omega arith))
              (lt→ltb (55 + n) 71 (omega arith))),
          y,
        )
      where
        above : (48 ≤ 55 + n) × (55 + n ≤ 57) → ⊥
        above k = omega (arith, ltb-false n 10 e)

pub unhex_sound : (t : List ℕ) → Holds (λ n r. (n < 16) × (hex_digit n ∷ r ≡ t)) (unhex t)
unfolding unhex
unhex_sound [] = missed []
unhex_sound (c ∷ t) = go (digit? c) (capital? c) refl refl
  where
    go : (a b : Bool) → digit? c ≡ a → capital? c ≡ b
        → Holds (λ n r. (n < 16) × (hex_digit n ∷ r ≡ c ∷ t)) (unhex (c ∷ t))
    go true b e f =
        let z = digit_in c (subst T (sym e) tt) in
        let y : 48 + (c - 48) ≡ c = omega arith in
        let x : hex_digit (c - 48) ≡ c = rw (is_true (ltb (c - 48) 10) (lt→ltb (c - 48) 10 (omega arith))) y in
        let w : c - 48 < 16 = omega arith in
        rw (e, unhex) (found (w, ap (λ d. d ∷ t) x))
    go false true e f =
        let h : T (capital? c) = subst T (sym f) tt in
        let u : 65 ≤ c = leb→le 65 c (and_left (leb 65 c) (ltb c 71) h) in
        let v : c < 71 = ltb→lt c 71 (and_right (leb 65 c) (ltb c 71) h) in
        let y : 55 + (c - 55) ≡ c = omega arith in
        let x : hex_digit (c - 55) ≡ c = rw (is_false (ltb (c - 55) 10) (le→nltb (c - 55) 10 (omega arith))) y in
        let w : c - 55 < 16 = omega arith in
        rw (e, unhex, f) (found (w, ap (λ d. d ∷ t) x))
    go false false e f = rw (e, unhex, f) (missed (c ∷ t))

-- one digit, and two of them for an octet
abbrev pub digit_codec : Codec (λ n. n < 16) (λ n. hex_digit n ∷ []) Any
digit_codec = record { parse = unhex; back = λ n r h m. unhex_back n r h; sound = unhex_sound }

abbrev pub octet_codec : Codec (λ x. x < 256) hex_octet Any
octet_codec = iso {A = ℕ × ℕ} {I = λ t. (t.0 < 16) × (t.1 < 16)} {f = λ t. (hex_digit t.0 ∷ [])
    ++ (hex_digit t.1 ∷ [])}
    (λ x. (x / 16, x % 16)) (λ t. t.0 * 16 + t.1) (λ x h. ((omega arith, omega arith), omega arith))
    (λ t h. (omega arith, halves t.0 t.1 h.1)) (digit_codec ⊗ digit_codec)
  where
    halves : (a b : ℕ) → b < 16 → ◌≡◌ {A = ℕ × ℕ} ((a * 16 + b) / 16, (a * 16 + b) % 16) (a, b)
    halves a b h =
        let u : (a * 16 + b) / 16 ≡ a = omega arith in
        let v : (a * 16 + b) % 16 ≡ b = omega arith in
        λ i. (u i, v i)

-- no octet begins as something below the digits
pub hex_octet_avoids : (y : ℕ) → y < 48 → Avoids (λ x. x < 256) hex_octet y
hex_octet_avoids y k x r s h e =
    let u = (hex_digit_in (x / 16) (omega arith)).0 in
    let v = head-eq_of_cons-eq e in omega arith

-- digits in pairs, and the quote after them
unfoldable pub hex_pairs : Codec Octets (ended hex_octet 34) Any
hex_pairs = many (hex_octet_avoids 34 (omega arith)) (λ r. tt) (λ b r h. tt) octet_codec

-- the same with the quote before them
unfoldable pub hex : Codec Octets hex_text Any
unfolding hex_text
hex = "\"" ▷ hex_pairs

-- it begins with its quote
pub hex_text_avoids : (y : ℕ) → T (not (eqb 34 y)) → Avoids Octets hex_text y
unfolding hex_text
hex_text_avoids y k l r s h e = fronts k e

-- every octet of the text is a visible ASCII character
pub hex_text_visible : (l : List ℕ) → Octets l → All (λ c. (32 ≤ c) × (c ≤ 126)) (hex_text l)
unfolding hex_text
hex_text_visible l h = ((omega arith, omega arith), pairs l h)
  where
    digit : (n : ℕ) → n < 16 → (32 ≤ hex_digit n) × (hex_digit n ≤ 126)
    digit n h = let z = hex_digit_in n h in (omega arith, omega arith)

    pairs : (l : List ℕ) → Octets l → All (λ c. (32 ≤ c) × (c ≤ 126)) (ended hex_octet 34 l)
    pairs [] h = ((omega arith, omega arith), tt)
    pairs (x ∷ l) h = (digit (x / 16) (omega arith), (digit (x % 16) (omega arith), pairs l h.1))
