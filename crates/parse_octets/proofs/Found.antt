-- What the parsers of an octet find, by the octets at a place of the text.
use Rattle.std.proofs.Common.{◌≡◌, refl, sym, ap, ◌∙◌, true, false, List, [], ◌∷◌, ℕ, ◌+◌, ◌-◌, ◌≤◌, ◌<◌, leb, Option}
use Rattle.std.proofs.Common.{None, Bor, Result, Ok, Err, length, drop, slice_index_or, arith, drop_of_length-le}
use Rattle.std.proofs.Common.{ne_eqb, le-leb, ⊎_elim, ◌⊎◌}
use Rattle.std.proofs.lemmas.Bool.{lt-leb}
use Rattle.std.proofs.lemmas.List.{drop_more}
use Rattle.std.proofs.Math.Bool.{and-false}
use Rattle.std.specs.Slice.{IsItemAt}
use Rattle.octets.specs.Parsed.{Parsed, parsed, failed}
use Rattle.spelling.specs.Spelling.{plain?}
use Rattle.strict.specs.Spelt.{ddd, escape, spelled_at, bare?, quoted, string_at}
use Rattle.parse_octets.specs.declared.Letter.{Letter}
use Rattle.parse_octets.specs.Octet.{Reads, StopsAt, LetterAt, from_to}

-- ---- the octet at a place of the text
pub record Here (t : List ℕ) (at x : ℕ) : Type 0 where
  pub is : drop at t ≡ x ∷ drop (at + 1) t
  pub inside : at < length t

pub here : {t : List ℕ} {at x : ℕ} → at < length t → x ≡ slice_index_or t at x → Here t at x
here {t} {at} {x} h e = record { is = drop_more t at x h ∙ ap (λ y. y ∷ drop (at + 1) t) (sym e); inside = h }

-- no octet stands there
pub past : (t : List ℕ) (at : ℕ) (r : Option (Bor ℕ)) → IsItemAt t at r → r ≡ None → length t ≤ at
past t at r h e = let k = rw e at h in k.3

-- the text from two octets on
pub both_here : {t : List ℕ} {at x y : ℕ} → Here t at x → Here t (at + 1) y → drop at t ≡ x ∷ y ∷ drop (at + 2) t
both_here {t} {at} h k = let e : at + 1 + 1 ≡ at + 2 = omega arith in h.is ∙ rw (k.is, e)

-- ---- what a parser finds
-- what another parser finds further on
pub goes_on : (t : List ℕ) (at n : ℕ) (p q : List ℕ → Parsed ℕ) (r : Result Letter ℕ)
    → p (drop at t) ≡ q (drop n t) → at ≤ n → LetterAt q t n r → LetterAt p t at r
goes_on t at n p q (Ok l) e h k = record { is = e ∙ k.is; onward = omega (arith, k.onward); within = k.within }
goes_on t at n p q (Err m) e h k = record { is = e ∙ k.is; onward = omega (arith, k.onward); within = k.within }

module _ {p : List ℕ → Parsed ℕ} {t : List ℕ} {at : ℕ} where
  -- nothing goes on at the end
  pub stops_end : p [] ≡ failed [] → length t ≤ at → at ≤ length t → StopsAt p t at at
  stops_end e h k = record { is = rw (drop_of_length-le t h) e; onward = omega arith; within = k }

  module _ {x : ℕ} (h : Here t at x) where
    pub reads_one : {y : ℕ} → p (x ∷ drop (at + 1) t) ≡ parsed y (drop (at + 1) t)
        → Reads p t at (record { at = at + 1; value = y })
    reads_one e = record { is = rw h.is e; onward = omega arith; within = omega (arith, h.inside) }

    pub stops_here : p (x ∷ drop (at + 1) t) ≡ failed (x ∷ drop (at + 1) t) → StopsAt p t at at
    stops_here e = record { is = rw h.is e; onward = omega arith; within = omega (arith, h.inside) }

    pub stops_short : p (x ∷ []) ≡ failed [] → length t ≤ at + 1 → StopsAt p t at (at + 1)
    stops_short e k = record {
      is = rw (h.is, drop_of_length-le t k) e;
      onward = omega arith;
      within = omega (arith, h.inside);
    }

    module _ {y : ℕ} (k : Here t (at + 1) y) where
      pub reads_two : {z : ℕ} → p (x ∷ y ∷ drop (at + 2) t) ≡ parsed z (drop (at + 2) t)
          → Reads p t at (record { at = at + 2; value = z })
      reads_two e = record { is = rw (both_here h k) e; onward = omega arith; within = omega (arith, k.inside) }

      pub stops_next : p (x ∷ y ∷ drop (at + 2) t) ≡ failed (y ∷ drop (at + 2) t) → StopsAt p t at (at + 1)
      stops_next e = record {
        is = let d : at + 1 + 1 ≡ at + 2 = omega arith in rw (both_here h k, k.is, d) e;
        onward = omega arith;
        within = omega (arith, k.inside);
      }

-- ---- an octet of a label
pub spelled_end : spelled_at [] ≡ failed []
unfolding spelled_at
spelled_end = refl

module _ {x : ℕ} where
  pub plain_taken : {u : List ℕ} → plain? x ≡ true → spelled_at (x ∷ u) ≡ parsed x u
  unfolding spelled_at
  plain_taken e = rw (e, spelled_at)

  module _ (e : plain? x ≡ false) where
    pub not_spelled : {u : List ℕ} → (x ≡ 92 → ⊥) → spelled_at (x ∷ u) ≡ failed (x ∷ u)
    unfolding spelled_at
    not_spelled d = rw (e, spelled_at, ne_eqb 92 x (λ k. d (sym k)))

    module _ (d : x ≡ 92) where
      pub backslash_alone : spelled_at (x ∷ []) ≡ failed []
      unfolding spelled_at
      backslash_alone = rw (e, spelled_at, d)

      pub backslash_other : {y : ℕ} {u : List ℕ} → (y ≡ 92 → ⊥) → spelled_at (x ∷ y ∷ u) ≡ failed (y ∷ u)
      unfolding spelled_at
      backslash_other {y} k = rw (e, spelled_at, d, ne_eqb 92 y (λ z. k (sym z)))

      pub backslashes : {y : ℕ} (u : List ℕ) → y ≡ 92 → spelled_at (x ∷ y ∷ u) ≡ escape u
      unfolding spelled_at
      backslashes u k = rw (e, spelled_at, d, k)

-- ---- a digit
pub from_end : (low high : ℕ) → from_to low high [] ≡ failed []
unfolding from_to
from_end low high = refl

module _ (low high : ℕ) {d : ℕ} {u : List ℕ} where
  pub digit_taken : low ≤ d → d ≤ high → from_to low high (d ∷ u) ≡ parsed (d - 48) u
  unfolding from_to
  digit_taken h k = rw (le-leb low d h, le-leb d high k)

  pub digit_under : d < low → from_to low high (d ∷ u) ≡ failed (d ∷ u)
  unfolding from_to
  digit_under h = rw (lt-leb low d h)

  pub digit_over : high < d → from_to low high (d ∷ u) ≡ failed (d ∷ u)
  unfolding from_to
  digit_over h = rw (lt-leb d high h) (rw (and-false (leb low d)) refl)

-- ---- what follows two backslashes
pub escape_end : escape [] ≡ ddd 3 0 []
unfolding escape ddd
escape_end = refl

module _ {x : ℕ} where
  pub dot_taken : {u : List ℕ} → x ≡ 46 → escape (x ∷ u) ≡ parsed x u
  unfolding escape
  dot_taken e = rw (e, escape)

  pub slash_alone : x ≡ 92 → escape (x ∷ []) ≡ failed []
  unfolding escape
  slash_alone e = rw e refl

  pub slash_other : {y : ℕ} {u : List ℕ} → x ≡ 92 → (y ≡ 92 → ⊥) → escape (x ∷ y ∷ u) ≡ failed (y ∷ u)
  unfolding escape
  slash_other {y} {u} e d = rw (e, ne_eqb 92 y (λ k. d (sym k)))

  pub slash_taken : {y : ℕ} {u : List ℕ} → x ≡ 92 → y ≡ 92 → escape (x ∷ y ∷ u) ≡ parsed 92 u
  unfolding escape
  slash_taken e d = rw (e, d)

  pub escape_digits : (u : List ℕ) → (x ≡ 46 → ⊥) → (x ≡ 92 → ⊥) → escape (x ∷ u) ≡ ddd 3 0 (x ∷ u)
  unfolding escape
  escape_digits u d e = rw (ne_eqb x 46 d, escape, ne_eqb x 92 e)

pub digits_there : {t : List ℕ} {at x : ℕ} → Here t at x → (x ≡ 46 → ⊥) → (x ≡ 92 → ⊥)
    → escape (drop at t) ≡ ddd 3 0 (drop at t)
digits_there {t} {at} h d e = rw h.is (escape_digits (drop (at + 1) t) d e)

pub digits_end : (t : List ℕ) {at : ℕ} → length t ≤ at → escape (drop at t) ≡ ddd 3 0 (drop at t)
digits_end t h = rw (drop_of_length-le t h) escape_end

-- ---- an octet of a string
pub string_end : string_at [] ≡ failed []
unfolding string_at
string_end = refl

module _ {x : ℕ} where
  pub bare_taken : {u : List ℕ} → bare? x ≡ true → string_at (x ∷ u) ≡ parsed x u
  unfolding string_at
  bare_taken e = rw (e, string_at)

  module _ (e : bare? x ≡ false) where
    pub not_quoted : {u : List ℕ} → (x ≡ 92 → ⊥) → string_at (x ∷ u) ≡ failed (x ∷ u)
    unfolding string_at
    not_quoted d = rw (e, string_at, ne_eqb 92 x (λ k. d (sym k)))

    module _ (d : x ≡ 92) where
      behind : (u : List ℕ) → string_at (x ∷ u) ≡ quoted u
      unfolding string_at
      behind u = rw (e, string_at, d)

      pub quoted_alone : string_at (x ∷ []) ≡ failed []
      unfolding quoted
      quoted_alone = behind []

      module _ {y : ℕ} {u : List ℕ} where
        pub quoted_other : (y ≡ 34 → ⊥) → (y ≡ 92 → ⊥) → string_at (x ∷ y ∷ u) ≡ failed (y ∷ u)
        unfolding quoted
        quoted_other k m = behind (y ∷ u) ∙ rw (ne_eqb y 34 k, quoted, ne_eqb y 92 m)

        pub quoted_taken : (y ≡ 34) ⊎ (y ≡ 92) → string_at (x ∷ y ∷ u) ≡ parsed y u
        unfolding quoted
        quoted_taken k = behind (y ∷ u) ∙ ⊎_elim (λ z. rw z refl) (λ z. rw z refl) k
