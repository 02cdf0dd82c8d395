-- Decimal numbers of any size, with no leading zeros.
use Rattle.std.specs.Prelude.{◌≡◌, refl, Bool, true, false, not, ◌&&◌, ℕ, zero, suc, ◌+◌, ◌-◌, ◌*◌, ◌/◌, ◌%◌, ◌<◌, ◌≤◌, T, leb, ltb, eqb}
use Rattle.std.proofs.Common.{sym, ◌∙◌, ap, subst, arith, ltb-false, T_not, leb→le, le→leb, lt→ltb, ltb→lt, eqb→eq}
use mathlib.Core.List.{List, [], ◌∷◌, ◌++◌, append_assoc, nil≢cons, head-eq_of_cons-eq, tail-eq_of_cons-eq}
use Prim.Native.String.{String}
use Rattle.std.proofs.Math.Arith.{le→nltb}
use Rattle.octets.specs.Lists.{ascii, all, All, key?, row_text}
use Rattle.octets.specs.Bits.{is_true, is_false, unequal, both, and_left, and_right, All-append}
use Rattle.octets.specs.Parsed.{Parsed, parsed, failed, Holds, missed, found, map_holds}
use Rattle.octets.specs.Codec.{Avoids, Any, Codec, joined, behind_lit, distinct, row_holds, table}

-- a decimal digit; the text does not begin with one
abbrev pub digit? : ℕ → Bool
digit? d = leb 48 d && ltb d 58

abbrev pub no_digit : List ℕ → Bool
no_digit [] = true
no_digit (c ∷ r) = not (digit? c)

-- what may follow a number
abbrev pub NoDigit : List ℕ → Type 0
NoDigit r = T (no_digit r)

-- a digit by test and by bounds
pub digit_in : (d : ℕ) → T (digit? d) → (48 ≤ d) × (d ≤ 57)
digit_in d h = (
  leb→le 48 d (and_left (leb 48 d) (ltb d 58) h),
  omega (arith, ltb→lt d 58 (and_right (leb 48 d) (ltb d 58) h)),
)

pub digit_test : (d : ℕ) → 48 ≤ d → d ≤ 57 → T (digit? d)
digit_test d h k = both (leb 48 d) (ltb d 58) (le→leb 48 d h) (lt→ltb d 58 (omega arith))

pub is_digit : (d : ℕ) → d < 10 → digit? (48 + d) ≡ true
is_digit d h = is_true _ (digit_test (48 + d) (omega arith) (omega arith))

-- ---- the text: the number bounds how deep the calls go, and the test stops them
abbrev pub digits : ℕ → Bool → ℕ → List ℕ
digits zero b n = (48 + n) ∷ []
digits (suc f) true n = (48 + n) ∷ []
digits (suc f) false n = digits f (ltb (n / 10) 10) (n / 10) ++ ((48 + n % 10) ∷ [])

-- a number in decimal
unfoldable pub decimal : ℕ → List ℕ
decimal n = digits n (ltb n 10) n

-- the number itself is bound enough, and any more gives the same digits
digits_one : (f n : ℕ) → digits f true n ≡ (48 + n) ∷ []
digits_one zero n = refl
digits_one (suc f) n = refl

digits_same : (f g : ℕ) (b : Bool) (n : ℕ) → ltb n 10 ≡ b → n ≤ f → n ≤ g → digits f b n ≡ digits g b n
digits_same zero g true n e h k = sym (digits_one g n)
digits_same (suc f) g true n e h k = sym (digits_one g n)
digits_same zero g false n e h k = absurd (omega (arith, ltb-false n 10 e))
digits_same (suc f) zero false n e h k = absurd (omega (arith, ltb-false n 10 e))
digits_same (suc f) (suc g) false n e h k =
    let z = ltb-false n 10 e in
    ap (λ l. l ++ ((48 + n % 10) ∷ [])) (digits_same f g (ltb (n / 10) 10) (n / 10) refl (omega arith) (omega arith))

-- a number of one digit, and of more
pub decimal_digit : (n : ℕ) → n < 10 → decimal n ≡ (48 + n) ∷ []
unfolding decimal
decimal_digit n h = rw (is_true (ltb n 10) (lt→ltb n 10 h)) (digits_one n n)

pub decimal_step : (n : ℕ) → 10 ≤ n → decimal n ≡ decimal (n / 10) ++ ((48 + n % 10) ∷ [])
unfolding decimal
decimal_step n h = rw (is_false (ltb n 10) (le→nltb n 10 h)) (go n (omega arith))
  where
    go : (f : ℕ) → n ≤ f → digits f false n ≡ decimal (n / 10) ++ ((48 + n % 10) ∷ [])
    go zero k = absurd (omega arith)
    go (suc f) k = ap (λ l. l ++ ((48 + n % 10) ∷ []))
        (digits_same f (n / 10) (ltb (n / 10) 10) (n / 10) refl (omega arith) (omega arith))

-- one more digit after a number that is not 0
pub decimal_push : (n d : ℕ) → 0 < n → d < 10 → decimal (n * 10 + d) ≡ decimal n ++ ((48 + d) ∷ [])
decimal_push n d h k =
    let u : (n * 10 + d) / 10 ≡ n = omega arith in
    let v : (n * 10 + d) % 10 ≡ d = omega arith in
    decimal_step (n * 10 + d) (omega arith) ∙ rw (u, v)

-- every octet is a digit
pub decimal-digits : (n : ℕ) → All (λ c. (48 ≤ c) × (c ≤ 57)) (decimal n)
unfolding decimal
decimal-digits n = go n (ltb n 10) n refl (omega arith)
  where
    go : (f : ℕ) (b : Bool) (n : ℕ) → ltb n 10 ≡ b → n ≤ f → All (λ c. (48 ≤ c) × (c ≤ 57)) (digits f b n)
    go zero b n e h = ((omega arith, omega arith), tt)
    go (suc f) true n e h = let z = ltb→lt n 10 (subst T (sym e) tt) in ((omega arith, omega arith), tt)
    go (suc f) false n e h =
        let z = ltb-false n 10 e in
        All-append (λ c. (48 ≤ c) × (c ≤ 57)) (digits f (ltb (n / 10) 10) (n / 10)) _
        (go f (ltb (n / 10) 10) (n / 10) refl (omega arith)) ((omega arith, omega arith), tt)

-- there is one
pub decimal-filled : (n : ℕ) → decimal n ≡ [] → ⊥
unfolding decimal
decimal-filled n e = go n (ltb n 10) n e
  where
    snoc : (l : List ℕ) (x : ℕ) → l ++ (x ∷ []) ≡ [] → ⊥
    snoc [] x e = nil≢cons (sym e)
    snoc (y ∷ l) x e = nil≢cons (sym e)

    go : (f : ℕ) (b : Bool) (n : ℕ) → digits f b n ≡ [] → ⊥
    go zero b n e = nil≢cons (sym e)
    go (suc f) true n e = nil≢cons (sym e)
    go (suc f) false n e = snoc (digits f (ltb (n / 10) 10) (n / 10)) (48 + n % 10) e

-- the first octet is a digit
pub decimal_first : (n x : ℕ) (r s : List ℕ) → decimal n ++ r ≡ x ∷ s → (48 ≤ x) × (x ≤ 57)
decimal_first n x r s e = go (decimal n) (decimal-digits n) (decimal-filled n) e
  where
    go : (l : List ℕ) → All (λ c. (48 ≤ c) × (c ≤ 57)) l → (l ≡ [] → ⊥) → l ++ r ≡ x ∷ s → (48 ≤ x) × (x ≤ 57)
    go [] h f e = absurd (f refl)
    go (c ∷ l) h f e = subst (λ z. (48 ≤ z) × (z ≤ 57)) (head-eq_of_cons-eq e) h.0

-- so it is no octet that is none
pub decimal_avoids : (x : ℕ) → T (not (digit? x)) → (n : ℕ) (r s : List ℕ) → decimal n ++ r ≡ x ∷ s → ⊥
decimal_avoids x h n r s e = let z = decimal_first n x r s e in T_not (digit? x) h (digit_test x z.0 z.1)

pub number_avoids : (x : ℕ) → T (not (digit? x)) → Avoids (λ n. Unit {0}) decimal x
number_avoids x h n r s i e = decimal_avoids x h n r s e

-- a decimal number that begins with 0 is 0, so none begins with 0 and another digit
pub decimal-zero : (n : ℕ) (r s : List ℕ) → decimal n ++ r ≡ 48 ∷ s → n ≡ 0
unfolding decimal
decimal-zero n r s e = go n (ltb n 10) n r refl e
  where
    go : (f : ℕ) (b : Bool) (n : ℕ) (r : List ℕ) → ltb n 10 ≡ b → digits f b n ++ r ≡ 48 ∷ s → n ≡ 0
    go zero b n r h e = omega (arith, head-eq_of_cons-eq e)
    go (suc f) true n r h e = omega (arith, head-eq_of_cons-eq e)
    go (suc f) false n r h e =
        omega (
          arith,
          ltb-false n 10 h,
          go f (ltb (n / 10) 10) (n / 10) ((48 + n % 10) ∷ r) refl (simp append_assoc at e),
        )

pub no_leading_zero : (n d : ℕ) (r s : List ℕ) → NoDigit r → T (digit? d) → decimal n ++ r ≡ 48 ∷ d ∷ s → ⊥
unfolding decimal
no_leading_zero n d r s h k e =
    let z : 48 ∷ r ≡ 48 ∷ d ∷ s = subst (λ n. decimal n ++ r ≡ 48 ∷ d ∷ s) (decimal-zero n r (d ∷ s) e) e in
    T_not (digit? d) (subst NoDigit (tail-eq_of_cons-eq z) h) k

-- ---- the parser
-- all the digits that come, after the digits of `n`
abbrev pub run : ℕ → List ℕ → Parsed ℕ
run n [] = parsed n []
run n (d ∷ t) = elim (digit? d) [ true ↦ run (n * 10 + (d - 48)) t | false ↦ parsed n (d ∷ t) ]

-- a digit that is not 0
abbrev pub leading? : ℕ → Bool
leading? d = leb 49 d && ltb d 58

-- such a digit, and all the digits that come
unfoldable pub positive : List ℕ → Parsed ℕ
positive [] = failed []
positive (d ∷ t) = elim (leading? d) [ true ↦ run (d - 48) t | false ↦ failed (d ∷ t) ]

-- 0 alone, or such a number; a digit after the 0 is left
unfoldable pub natural : List ℕ → Parsed ℕ
natural [] = failed []
natural (d ∷ t) = elim (eqb d 48) [ true ↦ parsed 0 t | false ↦ positive (d ∷ t) ]

-- what `run` makes of a digit, and of what is none
pub run_digit : (n d : ℕ) (t : List ℕ) → d < 10 → run n ((48 + d) ∷ t) ≡ run (n * 10 + d) t
run_digit n d t h =
    rw (is_digit d h, run)
    let z : 48 + d - 48 ≡ d = omega arith in
    rw z

pub run_stop : (n : ℕ) (r : List ℕ) → NoDigit r → run n r ≡ parsed n r
run_stop n [] h = refl
run_stop n (x ∷ r) h = rw (is_false (digit? x) h, run)

positive-digits : (f : ℕ) (b : Bool) (n : ℕ) (t : List ℕ) → ltb n 10 ≡ b → n ≤ f → 0 < n
    → positive (digits f b n ++ t) ≡ run n t
unfolding positive
positive-digits zero b n t e h k = absurd (omega arith)
positive-digits (suc f) true n t e h k =
    let y : n < 10 = ltb→lt n 10 (subst T (sym e) tt) in
    let z : 48 + n - 48 ≡ n = omega arith in
    rw (
      is_true (leading? (48 + n)) (both (leb 49 (48 + n)) (ltb (48 + n) 58) (le→leb 49 (48 + n) (omega arith))
          (lt→ltb (48 + n) 58 (omega arith))),
      positive,
      z,
    )
positive-digits (suc f) false n t e h k =
    let z : 10 ≤ n = ltb-false n 10 e in
    let y : n / 10 * 10 + n % 10 ≡ n = omega arith in
    rw (
      append_assoc,
      positive-digits f (ltb (n / 10) 10) (n / 10) ((48 + n % 10) ∷ t) refl (omega arith) (omega arith),
      run_digit (n / 10) (n % 10) t (omega arith),
      y,
    )

pub positive_back : (n : ℕ) (r : List ℕ) → 0 < n → NoDigit r → positive (decimal n ++ r) ≡ parsed n r
unfolding decimal
positive_back n r h m = positive-digits n (ltb n 10) n r refl (omega arith) h ∙ run_stop n r m

run_sound : (n : ℕ) (t : List ℕ) → 0 < n → Holds (λ m r. (0 < m) × (decimal m ++ r ≡ decimal n ++ t)) (run n t)
run_sound n [] h = found (h, refl)
run_sound n (d ∷ t) h = go (digit? d) refl (run_sound (n * 10 + (d - 48)) t (omega arith))
  where
    go : (b : Bool) → digit? d ≡ b
        → Holds (λ m r. (0 < m) × (decimal m ++ r ≡ decimal (n * 10 + (d - 48)) ++ t)) (run (n * 10 + (d - 48)) t)
        → Holds (λ m r. (0 < m) × (decimal m ++ r ≡ decimal n ++ (d ∷ t))) (run n (d ∷ t))
    go true e k =
        let z = digit_in d (subst T (sym e) tt) in
        let y : 48 + (d - 48) ≡ d = omega arith in
        let x : decimal (n * 10 + (d - 48)) ++ t ≡ decimal n ++ (d ∷ t) =
        rw (decimal_push n (d - 48) h (omega arith), y) (append_assoc (decimal n) (d ∷ []) t) in
        rw (e, run) (map_holds k λ m r i. (i.0, i.1 ∙ x))
    go false e k = rw (e, run) (found (h, refl))

pub positive_sound : (t : List ℕ) → Holds (λ n r. (0 < n) × (decimal n ++ r ≡ t)) (positive t)
unfolding positive
positive_sound [] = missed []
positive_sound (d ∷ t) = go (leading? d) refl
  where
    go : (b : Bool) → leading? d ≡ b → Holds (λ n r. (0 < n) × (decimal n ++ r ≡ d ∷ t)) (positive (d ∷ t))
    go true e =
        let h : T (leading? d) = subst T (sym e) tt in
        let u : 49 ≤ d = leb→le 49 d (and_left (leb 49 d) (ltb d 58) h) in
        let v : d < 58 = ltb→lt d 58 (and_right (leb 49 d) (ltb d 58) h) in
        let y : 48 + (d - 48) ≡ d = omega arith in
        let x : decimal (d - 48) ++ t ≡ d ∷ t = rw (decimal_digit (d - 48) (omega arith), y) in
        rw (e, positive) (map_holds (run_sound (d - 48) t (omega arith)) λ m r i. (i.0, i.1 ∙ x))
    go false e = rw (e, positive) (missed (d ∷ t))

pub natural_back : (n : ℕ) (r : List ℕ) → NoDigit r → natural (decimal n ++ r) ≡ parsed n r
unfolding natural positive decimal
natural_back zero r m = refl
natural_back (suc n) r m = go (decimal (suc n) ++ r) (λ s e. z (decimal-zero (suc n) r s e))
    ∙ positive_back (suc n) r (omega arith) m
  where
    z : suc n ≡ 0 → ⊥
    z e = omega arith

    go : (w : List ℕ) → ((s : List ℕ) → w ≡ 48 ∷ s → ⊥) → natural w ≡ positive w
    go [] h = refl
    go (x ∷ w) h = rw (unequal x 48 (λ e. h w (ap (λ y. y ∷ w) e)), natural)

pub natural_sound : (t : List ℕ) → Holds (λ n r. Unit {0} × (decimal n ++ r ≡ t)) (natural t)
unfolding natural
natural_sound [] = missed []
natural_sound (d ∷ t) = go (eqb d 48) refl
  where
    go : (b : Bool) → eqb d 48 ≡ b → Holds (λ n r. Unit {0} × (decimal n ++ r ≡ d ∷ t)) (natural (d ∷ t))
    go true e =
        let x : decimal 0 ++ t ≡ d ∷ t =
        rw (decimal_digit 0 (omega arith)) (ap (λ y. y ∷ t) (sym (eqb→eq d 48 (subst T (sym e) tt)))) in
        rw (e, natural) (found (tt, x))
    go false e = rw (e, natural) (map_holds (positive_sound (d ∷ t)) λ n r h. (tt, h.1))

-- ---- the codecs
-- a number of any size: the longest run of digits is taken
abbrev pub number : Codec (λ n. Unit {0}) decimal NoDigit
number = record { parse = natural; back = λ n r h m. natural_back n r m; sound = natural_sound }

-- a number that is not 0
abbrev pub positive_number : Codec (λ n. 0 < n) decimal NoDigit
positive_number = record { parse = positive; back = positive_back; sound = positive_sound }

-- there is a first octet, and it is no digit
abbrev pub ends? : List ℕ → Bool
ends? [] = false
ends? (c ∷ l) = not (digit? c)

-- then no digit comes first, whatever follows
pub ends_first : (m : List ℕ) → T (ends? m) → (r : List ℕ) → NoDigit (m ++ r)
ends_first [] h r = absurd h
ends_first (c ∷ m) h r = h

-- a text that ends with a number, and fixed octets after it that do not begin with a digit: `number_then "," tt number`
abbrev pub number_then : {A : Type 0} {I : A → Type 0} {f : A → List ℕ} (l : String) → T (ends? (ascii l))
    → Codec I f NoDigit
    → Codec I (λ a. f a ++ ascii l) Any
number_then l h p = behind_lit l (ends_first (ascii l) h) p

-- a number, and one of a table's texts after it, none of which begins with a digit
abbrev pub number_row : (rows : List (ℕ × String)) → T (distinct rows) → T (all (λ row. ends? (ascii row.1)) rows)
    → Codec {A = ℕ × ℕ} (λ u. Unit {0} × T (key? u.1 rows)) (λ u. decimal u.0 ++ row_text u.1 rows) Any
number_row rows d h =
    joined number (table rows d) (λ n r k m. ends_first (row_text n rows) (row_holds ends? rows h n k) r)
