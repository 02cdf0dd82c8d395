-- The parsers of names, strings and signed numbers: each stops at the first octet at which no spelling goes on.
use Rattle.std.specs.Prelude.{◌≡◌, refl, ◌⊎◌, Bool, true, false, not, cond, ◌&&◌, ◌||◌, ℕ, zero, suc, ◌+◌, ◌-◌, ◌*◌, ◌/◌, ◌%◌, ◌^◌, ◌<◌, ◌≤◌, T, leb, ltb, eqb}
use Rattle.std.proofs.Common.{sym, ◌∙◌, ap, ap₂, subst, inl, inr, arith, eqb-true, T_not, leb→le, ltb→lt, lt→ltb}
use mathlib.Core.List.{List, [], ◌∷◌, ◌++◌, head-eq_of_cons-eq}
use Rattle.std.proofs.lemmas.Bool.{eqb-false}
use Rattle.octets.specs.Lists.{ascii, none?, ended}
use Rattle.octets.specs.Bits.{is_true, is_false, unequal, both, and_left, and_right}
use Rattle.octets.specs.Parsed.{Parsed, parsed, failed, and_then, strip, Holds, missed, found, map_holds, then_holds}
use Rattle.octets.specs.Parsed.{strip_sound}
use Rattle.octets.specs.Codec.{Avoids, OneOrMore, Any, Codec, fronts, some_avoids, iso, retext, literal_as, either}
use Rattle.octets.specs.Codec.{Either}
use Rattle.octets.specs.Codec.{either_text, many, many1, ◌▷◌}
use Rattle.octets.specs.Decimal.{digit?, digit_in, digit_test, NoDigit, number, positive_number, decimal_avoids}
use Rattle.names.specs.Name.{Name}
use Rattle.spelling.specs.Spelling.{plain?, three_digits, spelled, label_text, name_text, Signed, plus, minus, signed_text}
use Rattle.spelling.specs.Spelling.{printable?, string_octet, string_text}
use Rattle.strict.specs.Grammar.{Label, Labels, SignedNumber, StringIn}

-- ---- a thing of two kinds, each made in its own way
abbrev pub from_sum : {A B C : Type 0} → (A → C) → (B → C) → A ⊎ B → C
from_sum left right (inl a) = left a
from_sum left right (inr b) = right b

module _ {A B C : Type 0} {J : C → Type 0} {g : C → List ℕ} {F : List ℕ → Type 0} (left : A → C) (right : B
    → C) (kind : C → A ⊎ B) where
  -- a codec for each kind, whose texts never begin alike
  abbrev pub sum : ((c : C) → from_sum left right (kind c) ≡ c) → ((a : A) → kind (left a) ≡ inl a)
      → ((b : B) → kind (right b) ≡ inr b)
      → Codec (λ a. J (left a)) (λ a. g (left a)) F → Codec (λ b. J (right b)) (λ b. g (right b)) F
      → ((a : A) (b : B) (r s : List ℕ) → J (left a) → J (right b) → g (left a) ++ r ≡ g (right b) ++ s → ⊥)
      → Codec J g F
  sum whole at_left at_right p q apart =
      retext (λ c. ap g (sym (whole c)) ∙ text (kind c))
      (iso kind (from_sum left right) (λ c h. (range (kind c) (subst J (sym (whole c)) h), whole c)) back
      (either p q apart))
    where
      text : (u : A ⊎ B) → g (from_sum left right u) ≡ either_text (λ a. g (left a)) (λ b. g (right b)) u
      text (inl a) = refl
      text (inr b) = refl

      range : (u : A ⊎ B) → J (from_sum left right u) → Either (λ a. J (left a)) (λ b. J (right b)) u
      range (inl a) h = h
      range (inr b) h = h

      back : (u : A ⊎ B) → Either (λ a. J (left a)) (λ b. J (right b)) u
          → J (from_sum left right u) × (kind (from_sum left right u) ≡ u)
      back (inl a) h = (h, at_left a)
      back (inr b) h = (h, at_right b)

-- ---- an octet of a label
-- an octet that is written `\\DDD`
unfoldable pub coded? : ℕ → Bool
coded? x = ltb x 256 && (not (plain? x) && (not (eqb x 46) && not (eqb x 92)))

-- one of the `n` numbers from `lo` on is such an octet
unfoldable pub coded_from? : ℕ → ℕ → Bool
coded_from? lo zero = false
coded_from? lo (suc n) = coded? lo || coded_from? (suc lo) n

-- a digit after those of `n`, with `k` more to come, that leads to such an octet
unfoldable pub leads? : ℕ → ℕ → ℕ → Bool
leads? k n d = digit? d && coded_from? ((n * 10 + (d - 48)) * 10 ^ k) (10 ^ k)

-- `k` more digits after those of `n`
unfoldable pub ddd : ℕ → ℕ → List ℕ → Parsed ℕ
ddd zero n t = parsed n t
ddd (suc k) n [] = failed []
ddd (suc k) n (d ∷ t) = elim (leads? k n d) [ true ↦ ddd k (n * 10 + (d - 48)) t | false ↦ failed (d ∷ t) ]

-- what follows the two backslashes
unfoldable pub escape : List ℕ → Parsed ℕ
escape [] = failed []
escape (c ∷ t) = elim (eqb c 46) [
  | true ↦ parsed 46 t
  | false ↦ elim (eqb c 92) [ true ↦ and_then (strip (ascii "\\") t) (λ u r. parsed 92 r) | false ↦ ddd 3 0 (c ∷ t) ]
]

-- an octet as `spelled` writes it
unfoldable pub spelled_at : List ℕ → Parsed ℕ
spelled_at [] = failed []
spelled_at (c ∷ t) = elim (plain? c) [
  | true ↦ parsed c t
  | false ↦ and_then (strip (ascii "\\\\") (c ∷ t))
      (λ u r. escape r)
]

-- an octet among the numbers counts
pub coded_among : (lo n x : ℕ) → T (coded? x) → lo ≤ x → x < lo + n → T (coded_from? lo n)
unfolding coded_from?
coded_among lo zero x c h k = absurd (omega arith)
coded_among lo (suc n) x c h k = go (eqb lo x) refl (λ f. coded_among (suc lo) n x c f (omega arith))
  where
    first : (a b : Bool) → T a → T (a || b)
    first true b t = tt
    first false b t = absurd t

    later : (a b : Bool) → T b → T (a || b)
    later true b t = tt
    later false b t = t

    above : (lo ≡ x → ⊥) → lo < x
    above f = omega arith

    go : (b : Bool) → eqb lo x ≡ b → (lo < x → T (coded_from? (suc lo) n)) → T (coded? lo || coded_from? (suc lo) n)
    go true e f = first (coded? lo) _ (subst (λ y. T (coded? y)) (sym (eqb-true lo x e)) c)
    go false e f = later (coded? lo) _ (f (above (eqb-false lo x e)))

-- a single number is one
pub coded_alone : (x : ℕ) → T (coded_from? x 1) → T (coded? x)
unfolding coded_from?
coded_alone x h = go (coded? x) h
  where
    go : (b : Bool) → T (b || false) → T b
    go true t = tt
    go false t = t

-- a digit that leads to an octet, by its value; and what is known of a digit that leads to one
pub leads_digit : (k n d : ℕ) → d < 10 → T (coded_from? ((n * 10 + d) * 10 ^ k) (10 ^ k)) → T (leads? k n (48 + d))
unfolding leads?
leads_digit k n d h c =
    let z : 48 + d - 48 ≡ d = omega arith in
    both (digit? (48 + d)) _ (digit_test (48 + d) (omega arith) (omega arith)) (rw z c)

pub leads_in : (k n c : ℕ) → T (leads? k n c)
    → (48 ≤ c) × (c ≤ 57) × T (coded_from? ((n * 10 + (c - 48)) * 10 ^ k) (10 ^ k))
unfolding leads?
leads_in k n c h = let (a, b) = digit_in c (and_left (digit? c) _ h) in (a, b, and_right (digit? c) _ h)

-- the digits of a number of three digits
pub three_back : (a b c : ℕ) → a < 10 → b < 10 → c < 10
    → let x = ((0 * 10 + a) * 10 + b) * 10 + c in (x / 100 ≡ a) × (x / 10 % 10 ≡ b) × (x % 10 ≡ c)
three_back a b c h k j = (omega arith, omega arith, omega arith)

-- one digit, where it leads to an octet
ddd_digit : (k n d : ℕ) (t : List ℕ) → d < 10 → T (coded_from? ((n * 10 + d) * 10 ^ k) (10 ^ k))
    → ddd (suc k) n ((48 + d) ∷ t) ≡ ddd k (n * 10 + d) t
unfolding ddd
ddd_digit k n d t h c =
    let z : 48 + d - 48 ≡ d = omega arith in
    rw (is_true (leads? k n (48 + d)) (leads_digit k n d h c), ddd, z)

-- three digits of an octet that is written so
ddd_back : (x : ℕ) (r : List ℕ) → T (coded? x) → x < 256 → ddd 3 0 (three_digits x ++ r) ≡ parsed x r
unfolding ddd
ddd_back x r c h =
    let z : ((0 * 10 + x / 100) * 10 + x / 10 % 10) * 10 + x % 10 ≡ x = omega arith in
    ddd_digit 2 0 (x / 100) _ (omega arith) (coded_among _ 100 x c (omega arith) (omega arith))
    ∙ ddd_digit 1 _ (x / 10 % 10) _ (omega arith) (coded_among _ 10 x c (omega arith) (omega arith))
    ∙ ddd_digit 0 _ (x % 10) _ (omega arith) (coded_among _ 1 x c (omega arith) (omega arith))
    ∙ ap (λ y. parsed y r) z

-- what holds of the answer for each digit that leads to an octet holds of the answer
ddd_holds : {P : ℕ → List ℕ → Type 0} (k n : ℕ) (t : List ℕ)
    → ((d : ℕ) (u : List ℕ) → d < 10 → T (coded_from? ((n * 10 + d) * 10 ^ k) (10 ^ k)) → (48 + d) ∷ u ≡ t
    → Holds P (ddd k (n * 10 + d) u)) → Holds P (ddd (suc k) n t)
unfolding ddd
ddd_holds k n [] f = missed []
ddd_holds {P} k n (d ∷ t) f = go (leads? k n d) refl
  where
    go : (b : Bool) → leads? k n d ≡ b → Holds P (ddd (suc k) n (d ∷ t))
    go true e =
        let (u, v, h) = leads_in k n d (subst T (sym e) tt) in
        let y : 48 + (d - 48) ≡ d = omega arith in
        rw (e, ddd) (f (d - 48) t (omega arith) h (ap (λ c. c ∷ t) y))
    go false e = rw (e, ddd) (missed (d ∷ t))

-- what three digits give is an octet that is written so
ddd_sound : (t : List ℕ) → Holds (λ x r. T (coded? x) × (three_digits x ++ r ≡ t)) (ddd 3 0 t)
unfolding ddd
ddd_sound t = ddd_holds 2 0 t λ a u ha la ea. ddd_holds 1 _ u λ b v hb lb eb. ddd_holds 0 _ v λ c w hc lc ec.
    found (last a b c lc, digits a b c w ha hb hc ec ∙ ap (λ z. (48 + a) ∷ z) eb ∙ ea)
  where
    last : (a b c : ℕ) → T (coded_from? ((((0 * 10 + a) * 10 + b) * 10 + c) * 1) 1)
        → T (coded? (((0 * 10 + a) * 10 + b) * 10 + c))
    last a b c h = let z : (((0 * 10 + a) * 10 + b) * 10 + c) * 1 ≡ ((0 * 10 + a) * 10 + b) * 10 + c =
        omega arith in coded_alone _ (subst (λ n. T (coded_from? n 1)) z h)

    digits : (a b c : ℕ) {v : List ℕ} (w : List ℕ) → a < 10 → b < 10 → c < 10 → (48 + c) ∷ w ≡ v
        → three_digits (((0 * 10 + a) * 10 + b) * 10 + c) ++ w ≡ (48 + a) ∷ (48 + b) ∷ v
    digits a b c w ha hb hc e =
        let (p, q, r) = three_back a b c ha hb hc in
        rw (p, q, r) (ap (λ z. (48 + a) ∷ (48 + b) ∷ z) e)

-- what is coded is none of the other three, and below 256
coded_in : (x : ℕ) → x < 256 → plain? x ≡ false → eqb x 46 ≡ false → eqb x 92 ≡ false → T (coded? x)
unfolding coded?
coded_in x h e f g = rw (is_true (ltb x 256) (lt→ltb x 256 h), e, f, g) tt

pub coded_out : (x : ℕ) → T (coded? x) → (x < 256) × (spelled x ≡ ascii "\\\\" ++ three_digits x)
unfolding coded? spelled
coded_out x h =
    let k = and_right (ltb x 256) _ h in
    let m = and_right (not (plain? x)) _ k in (
      ltb→lt x 256 (and_left (ltb x 256) _ h),
      rw (
        is_false (plain? x) (and_left (not (plain? x)) _ k),
        is_false (eqb x 46) (and_left (not (eqb x 46)) _ m),
        is_false (eqb x 92) (and_right (not (eqb x 46)) _ m),
      ),
    )

-- a digit is neither the dot nor the backslash
escape_digit : (d : ℕ) (t : List ℕ) → d < 10 → escape ((48 + d) ∷ t) ≡ ddd 3 0 ((48 + d) ∷ t)
unfolding escape
escape_digit d t h = rw (unequal (48 + d) 46 dot, escape, unequal (48 + d) 92 slash)
  where
    dot : 48 + d ≡ 46 → ⊥
    dot e = omega arith

    slash : 48 + d ≡ 92 → ⊥
    slash e = omega arith

-- a plain octet is visible, and written as itself
pub plain_in : (x : ℕ) → T (plain? x) → (33 ≤ x) × (x ≤ 126)
unfolding plain?
plain_in x h =
    let k = and_left (leb 33 x && leb x 126) _
    (and_left (leb 33 x && leb x 126 && not (eqb x 34)) _
    (and_left (leb 33 x && leb x 126 && not (eqb x 34) && not (eqb x 46)) _ h)) in
    (leb→le 33 x (and_left (leb 33 x) _ k), leb→le x 126 (and_right (leb 33 x) _ k))

pub spelled_plain : (x : ℕ) → T (plain? x) → spelled x ≡ x ∷ []
unfolding spelled
spelled_plain x h = rw (is_true (plain? x) h)

-- the value that a test has found
took_same : (x y : ℕ) (r : List ℕ) → eqb x y ≡ true → parsed y r ≡ parsed x r
took_same x y r e = ap (λ z. parsed z r) (sym (eqb-true x y e))

-- a spelling is taken back, and what is taken is one
pub spelled_at_back : (x : ℕ) (r : List ℕ) → x < 256 → spelled_at (spelled x ++ r) ≡ parsed x r
unfolding spelled spelled_at plain? escape
spelled_at_back x r h = go (plain? x) (eqb x 46) (eqb x 92) refl refl refl
  where
    go : (a b c : Bool) → plain? x ≡ a → eqb x 46 ≡ b → eqb x 92 ≡ c
        → spelled_at (cond a (x ∷ [])
        (cond b (ascii "\\\\.") (cond c (ascii "\\\\\\\\") (ascii "\\\\" ++ three_digits x))) ++ r) ≡ parsed x r
    go true b c e f g = rw (e, spelled_at)
    go false true c e f g = took_same x 46 r f
    go false false true e f g = took_same x 92 r g
    go false false false e f g = escape_digit (x / 100) _ (omega arith) ∙ ddd_back x r (coded_in x h e f g) h

escape_sound : (t : List ℕ) → Holds (λ x r. (x < 256) × (spelled x ++ r ≡ ascii "\\\\" ++ t)) (escape t)
unfolding escape spelled plain?
escape_sound [] = missed []
escape_sound (c ∷ t) = go (eqb c 46) (eqb c 92) refl refl
  where
    go : (a b : Bool) → eqb c 46 ≡ a → eqb c 92 ≡ b
        → Holds (λ x r. (x < 256) × (spelled x ++ r ≡ ascii "\\\\" ++ (c ∷ t))) (escape (c ∷ t))
    go true b e f = rw (e, escape) (found {a = 46} (omega arith, ap (λ d. 92 ∷ 92 ∷ d ∷ t) (sym (eqb-true c 46 e))))
    go false true e f = rw (e, escape, f) (then_holds _ (strip_sound (ascii "\\") t) λ u r d.
        found {a = 92} (omega arith, ap₂ (λ x l. 92 ∷ 92 ∷ x ∷ l) (sym (eqb-true c 92 f)) d))
    go false false e f = rw (e, escape, f) (map_holds (ddd_sound (c ∷ t)) λ x r h.
        let k = coded_out x h.0 in (k.0, ap (λ l. l ++ r) k.1 ∙ ap (λ l. 92 ∷ 92 ∷ l) h.1))

pub spelled_at_sound : (t : List ℕ) → Holds (λ x r. (x < 256) × (spelled x ++ r ≡ t)) (spelled_at t)
unfolding spelled_at
spelled_at_sound [] = missed []
spelled_at_sound (c ∷ t) = go (plain? c) refl
  where
    below : T (plain? c) → c < 256
    below h = omega (arith, plain_in c h)

    go : (b : Bool) → plain? c ≡ b → Holds (λ x r. (x < 256) × (spelled x ++ r ≡ c ∷ t)) (spelled_at (c ∷ t))
    go true e = rw (e, spelled_at)
        (found (below (subst T (sym e) tt), ap (λ l. l ++ t) (spelled_plain c (subst T (sym e) tt))))
    go false e = rw (e, spelled_at) (then_holds _ (strip_sound (ascii "\\\\") (c ∷ t)) λ u w d.
        map_holds (escape_sound w) λ x r h. (h.0, h.1 ∙ d))

unfoldable pub spelled_octet : Codec (λ x. x < 256) spelled Any
spelled_octet = record { parse = spelled_at; back = λ x r h m. spelled_at_back x r h; sound = spelled_at_sound }

-- a spelling begins with a plain octet or a backslash
pub spelled_avoids : (y : ℕ) → T (not (plain? y)) → T (not (eqb 92 y)) → Avoids (λ x. x < 256) spelled y
unfolding spelled
spelled_avoids y h k x r s i e = go (plain? x) (eqb x 46) (eqb x 92) refl e
  where
    go : (a b c : Bool) → plain? x ≡ a
        → cond a (x ∷ []) (cond b (ascii "\\\\.") (cond c (ascii "\\\\\\\\") (ascii "\\\\" ++ three_digits x)))
        ++ r ≡ y ∷ s → ⊥
    go true b c d e = T_not (plain? y) h (subst (λ z. T (plain? z)) (head-eq_of_cons-eq e) (subst T (sym d) tt))
    go false true c d e = fronts k e
    go false false true d e = fronts k e
    go false false false d e = fronts k e

-- ---- labels and names
-- octets and the dot
unfoldable pub label : Codec Label label_text Any
unfolding label_text plain?
label = many1 (spelled_avoids 46 tt tt) (λ r. tt) (λ b r h. tt) spelled_octet

-- a label begins as its first octet does
pub label_avoids : (y : ℕ) → T (not (plain? y)) → T (not (eqb 92 y)) → Avoids Label label_text y
unfolding label_text
label_avoids y h k = some_avoids spelled 46 (spelled_avoids y h k)

-- the root, or labels
abbrev root_or : Name → Unit {0} ⊎ Name
root_or [] = inl tt
root_or (l ∷ n) = inr (l ∷ n)

abbrev pub name_from : Unit {0} ⊎ Name → Name
name_from (inl u) = []
name_from (inr n) = n

-- the root or labels, and the quote after them
unfoldable pub root_or_labels : Codec Labels (λ n. cond (none? n) (ascii ".\"") (ended label_text 34 n)) Any
unfolding plain?
root_or_labels = retext same (iso root_or name_from one two
    (either (literal_as tt ".\"") (many1 (label_avoids 34 tt tt) (λ r. tt) (λ b r h. tt) label)
    (λ a b r s h k e. some_avoids label_text 34 (label_avoids 46 tt tt) b s _ k (sym e))))
  where
    same : (n : Name) → cond (none? n) (ascii ".\"") (ended label_text 34 n)
        ≡ either_text (λ u. ascii ".\"") (ended label_text 34) (root_or n)
    same [] = refl
    same (l ∷ n) = refl

    one : (n : Name) → Labels n → Either (λ u. u ≡ tt) (OneOrMore Label) (root_or n) × (name_from (root_or n) ≡ n)
    one [] h = (refl, refl)
    one (l ∷ n) h = ((h, tt), refl)

    two : (u : Unit {0} ⊎ Name) → Either (λ u. u ≡ tt) (OneOrMore Label) u
        → Labels (name_from u) × (root_or (name_from u) ≡ u)
    two (inl u) h = (tt, refl)
    two (inr []) h = absurd h.1
    two (inr (l ∷ n)) h = (h.0, refl)

-- a name in quotes
unfoldable pub name : Codec Labels name_text Any
unfolding name_text
name = "\"" ▷ root_or_labels

-- ---- signed numbers
-- a number, or a minus and a number that is not 0
abbrev sign_of : Signed → ℕ ⊎ ℕ
sign_of (plus n) = inl n
sign_of (minus n) = inr n

unfoldable pub signed_number : Codec SignedNumber signed_text NoDigit
unfolding signed_text
signed_number = sum plus minus sign_of whole (λ n. refl) (λ n. refl) number ("-" ▷ positive_number)
    (λ m n r s h k e. decimal_avoids 45 tt m r _ e)
  where
    whole : (n : Signed) → from_sum plus minus (sign_of n) ≡ n
    whole (plus n) = refl
    whole (minus n) = refl

-- ---- strings
-- an octet that stands for itself in a string
unfoldable pub bare? : ℕ → Bool
bare? x = printable? x && (not (eqb x 34) && not (eqb x 92))

-- what follows the backslash: the quote or the backslash
unfoldable pub quoted : List ℕ → Parsed ℕ
quoted [] = failed []
quoted (c ∷ t) = elim (eqb c 34) [
  | true ↦ parsed 34 t
  | false ↦ elim (eqb c 92) [ true ↦ parsed 92 t | false ↦ failed (c ∷ t) ]
]

-- an octet as `string_octet` writes it
unfoldable pub string_at : List ℕ → Parsed ℕ
string_at [] = failed []
string_at (c ∷ t) = elim (bare? c) [
  | true ↦ parsed c t
  | false ↦ and_then (strip (ascii "\\") (c ∷ t))
      (λ u r. quoted r)
]

-- what stands for itself is printable, and written so
bare_in : (x : ℕ) → T (printable? x) → eqb x 34 ≡ false → eqb x 92 ≡ false → T (bare? x)
unfolding bare?
bare_in x h e f = rw (is_true (printable? x) h, e, f) tt

pub bare_out : (x : ℕ) → T (bare? x) → T (printable? x) × (string_octet x ≡ x ∷ [])
unfolding bare? string_octet
bare_out x h =
    let k = and_right (printable? x) _ h in (
      and_left (printable? x) _ h,
      rw (is_false (eqb x 34) (and_left (not (eqb x 34)) _ k), is_false (eqb x 92) (and_right (not (eqb x 34)) _ k)),
    )

-- an octet of a string is taken back, and what is taken is one
pub string_at_back : (x : ℕ) (r : List ℕ) → T (printable? x) → string_at (string_octet x ++ r) ≡ parsed x r
unfolding string_octet string_at bare? printable? quoted
string_at_back x r h = go (eqb x 34) (eqb x 92) refl refl
  where
    go : (a b : Bool) → eqb x 34 ≡ a → eqb x 92 ≡ b
        → string_at (cond a (ascii "\\\"") (cond b (ascii "\\\\") (x ∷ [])) ++ r) ≡ parsed x r
    go true b e f = took_same x 34 r e
    go false true e f = took_same x 92 r f
    go false false e f = rw (is_true (bare? x) (bare_in x h e f), string_at)

quoted_sound : (t : List ℕ) → Holds (λ x r. T (printable? x) × (string_octet x ++ r ≡ ascii "\\" ++ t)) (quoted t)
unfolding quoted string_octet printable?
quoted_sound [] = missed []
quoted_sound (c ∷ t) = go (eqb c 34) (eqb c 92) refl refl
  where
    same : (y : ℕ) → eqb c y ≡ true → 92 ∷ y ∷ t ≡ 92 ∷ c ∷ t
    same y e = ap (λ z. 92 ∷ z ∷ t) (sym (eqb-true c y e))

    go : (a b : Bool) → eqb c 34 ≡ a → eqb c 92 ≡ b
        → Holds (λ x r. T (printable? x) × (string_octet x ++ r ≡ ascii "\\" ++ (c ∷ t))) (quoted (c ∷ t))
    go true b e f = rw (e, quoted) (found (tt, same 34 e))
    go false true e f = rw (e, quoted, f) (found (tt, same 92 f))
    go false false e f = rw (e, quoted, f) (missed (c ∷ t))

pub string_at_sound : (t : List ℕ) → Holds (λ x r. T (printable? x) × (string_octet x ++ r ≡ t)) (string_at t)
unfolding string_at
string_at_sound [] = missed []
string_at_sound (c ∷ t) = go (bare? c) refl
  where
    go : (b : Bool) → bare? c ≡ b → Holds (λ x r. T (printable? x) × (string_octet x ++ r ≡ c ∷ t)) (string_at (c ∷ t))
    go true e = let k = bare_out c (subst T (sym e) tt) in rw (e, string_at) (found (k.0, ap (λ l. l ++ t) k.1))
    go false e = rw (e, string_at) (then_holds _ (strip_sound (ascii "\\") (c ∷ t)) λ u w d.
        map_holds (quoted_sound w) λ x r h. (h.0, h.1 ∙ d))

unfoldable pub string_char : Codec (λ x. T (printable? x)) string_octet Any
string_char = record { parse = string_at; back = λ x r h m. string_at_back x r h; sound = string_at_sound }

-- none begins with a quote
pub string_octet_avoids : Avoids (λ x. T (printable? x)) string_octet 34
unfolding string_octet
string_octet_avoids x r s i e = go (eqb x 34) (eqb x 92) refl e
  where
    go : (a b : Bool) → eqb x 34 ≡ a → cond a (ascii "\\\"") (cond b (ascii "\\\\") (x ∷ [])) ++ r ≡ 34 ∷ s → ⊥
    go true b d e = fronts tt e
    go false true d e = fronts tt e
    go false false d e = eqb-false x 34 d (head-eq_of_cons-eq e)

-- a string's octets, and the quote after them
unfoldable pub string_chars : Codec StringIn (ended string_octet 34) Any
string_chars = many string_octet_avoids (λ r. tt) (λ b r h. tt) string_char

-- a string in quotes
unfoldable pub string : Codec StringIn string_text Any
unfolding string_text
string = "\"" ▷ string_chars
