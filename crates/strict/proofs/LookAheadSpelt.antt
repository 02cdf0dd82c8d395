-- The parser of an octet of a label has a look-ahead of one octet: three digits go on only where they lead to an octet.
use mathlib.Core.Path.{◌≡◌, refl, sym, ◌∙◌, ap, subst}
use mathlib.Core.Logic.{◌⊎◌, inl, inr}
use mathlib.Core.Bool.{Bool, true, false, not, cond, ◌||◌}
use mathlib.Core.List.{List, [], ◌∷◌, ◌++◌}
use Prim.Native.Nat.{ℕ, zero, suc, ◌+◌, ◌-◌, ◌*◌, ◌/◌, ◌%◌, ◌^◌, ◌<◌, ◌≤◌}
use native.Mathlib.Omega.{arith}
use borrow.Author.Tests.{eqb-true}
use lib.Dec.{T, eqb, ltb}
use Rattle.octets.specs.Lists.{ascii}
use Rattle.octets.specs.Bits.{is_true, is_false, and_left, and_right}
use Rattle.octets.specs.Parsed.{Parsed, parsed, failed, and_then, then_then, strip}
use Rattle.octets.proofs.LookAhead.{OneAhead, both_parse, octet_if, ahead_octet_if, ahead_pair, ahead_on, ahead_lit}
use Rattle.octets.proofs.LookAhead.{ahead_like, ahead_by, ahead_only}
use Rattle.spelling.specs.Spelling.{plain?, three_digits, spelled}
use Rattle.strict.specs.Spelt.{coded?, coded_from?, coded_among, leads?, ddd, escape, spelled_at, coded_out}
use Rattle.strict.specs.Spelt.{coded_alone, plain_in, spelled_plain, leads_digit, leads_in, three_back}

-- ---- three digits of an octet that is written so
-- one of the numbers is such an octet
coded_found : (lo n : ℕ) → T (coded_from? lo n) → (x : ℕ) × T (coded? x) × (lo ≤ x) × (x < lo + n)
unfolding coded_from?
coded_found lo zero h = absurd h
coded_found lo (suc n) h = go (coded? lo) refl h (coded_found (suc lo) n)
  where
    go : (b : Bool) → coded? lo ≡ b → T (b || coded_from? (suc lo) n)
        → (T (coded_from? (suc lo) n) → (x : ℕ) × T (coded? x) × (suc lo ≤ x) × (x < suc lo + n))
        → (x : ℕ) × T (coded? x) × (lo ≤ x) × (x < lo + suc n)
    go true e k f = (lo, subst T (sym e) tt, omega arith, omega arith)
    go false e k f = let (x, c, a, b) = f k in (x, c, omega arith, omega arith)

-- the second digit after the first, the third after both
second : ℕ → ℕ → Bool
second a = leads? 1 (0 * 10 + (a - 48))

third : ℕ → ℕ → ℕ → Bool
third a b = leads? 0 ((0 * 10 + (a - 48)) * 10 + (b - 48))

digits : List ℕ → Parsed (ℕ × (ℕ × ℕ))
digits = both_parse (octet_if (leads? 2 0)) (λ a. both_parse (octet_if (second a)) (λ b. octet_if (third a b)))

-- there is always a next digit
some_second : (a : ℕ) → T (leads? 2 0 a) → (b : ℕ) × T (second a b)
unfolding second
some_second a h =
    let (l, m, c) = leads_in 2 0 a h in
    let (x, k, p, q) = coded_found _ 100 c in (
      48 + x / 10 % 10,
      leads_digit 1 (0 * 10 + (a - 48)) (x / 10 % 10) (omega arith)
          (coded_among _ 10 x k (omega arith) (omega arith)),
    )

some_third : (a b : ℕ) → T (second a b) → (c : ℕ) × T (third a b c)
unfolding second third
some_third a b h =
    let (l, m, c) = leads_in 1 _ b h in
    let (x, k, p, q) = coded_found _ 10 c in
    (48 + x % 10, leads_digit 0 _ (x % 10) (omega arith) (coded_among _ 1 x k (omega arith) (omega arith)))

ahead_digits : OneAhead (λ u. T (leads? 2 0 u.0) × (T (second u.0 u.1.0) × T
    (third u.0 u.1.0 u.1.1))) (λ u. (u.0 ∷ []) ++ ((u.1.0 ∷ []) ++ (u.1.1 ∷ []))) digits
unfolding digits leads? coded_from? coded? plain?
ahead_digits = ahead_pair (ahead_octet_if (leads? 2 0) 48 tt)
    (λ a i. ahead_pair (ahead_octet_if (second a) (some_second a i).0 (some_second a i).1)
    (λ b j. ahead_octet_if (third a b) (some_third a b j).0 (some_third a b j).1))

value_of : ℕ × (ℕ × ℕ) → ℕ
value_of u = ((0 * 10 + (u.0 - 48)) * 10 + (u.1.0 - 48)) * 10 + (u.1.1 - 48)

-- digit by digit
ddd_step : (k n : ℕ) (t : List ℕ) → ddd (suc k) n t ≡ and_then (octet_if (leads? k n) t) λ c r. ddd k
    (n * 10 + (c - 48)) r
unfolding ddd octet_if
ddd_step k n [] = refl
ddd_step k n (d ∷ t) = go (leads? k n d) refl
  where
    go : (b : Bool) → leads? k n d ≡ b → ddd (suc k) n (d ∷ t) ≡ and_then (cond b (parsed d t) (failed (d ∷ t))) λ c r.
        ddd k (n * 10 + (c - 48)) r
    go true e = rw (e, ddd)
    go false e = rw (e, ddd)

abbrev third_step : ℕ → ℕ → List ℕ → Parsed ℕ
third_step a b t = and_then (octet_if (third a b) t) λ c r. parsed (value_of (a, (b, c))) r

abbrev second_step : ℕ → List ℕ → Parsed ℕ
second_step a t = and_then (octet_if (second a) t) λ b r. third_step a b r

abbrev pair : ℕ → ℕ → List ℕ → Parsed (ℕ × ℕ)
pair b c r = parsed (b, c) r

abbrev triple : ℕ → ℕ × ℕ → List ℕ → Parsed (ℕ × (ℕ × ℕ))
triple a u r = parsed (a, u) r

ddd-digits : (t : List ℕ) → ddd 3 0 t ≡ and_then (digits t) λ u r. parsed (value_of u) r
unfolding ddd digits second third value_of
ddd-digits t = ddd_step 2 0 t ∙ (λ i. and_then (octet_if (leads? 2 0) t) λ a r. two a r i)
    ∙ sym (then_then (octet_if (leads? 2 0) t) _ _ ∙ λ i. and_then (octet_if (leads? 2 0) t) λ a r. pairs a r i)
  where
    two : (a : ℕ) (r : List ℕ) → ddd 2 (0 * 10 + (a - 48)) r ≡ second_step a r
    two a r = ddd_step 1 (0 * 10 + (a - 48)) r ∙ λ i. and_then (octet_if (second a) r) λ b w. ddd_step 0
        ((0 * 10 + (a - 48)) * 10 + (b - 48)) w i

    pairs : (a : ℕ) (r : List ℕ) → and_then (and_then (both_parse (octet_if (second a)) (λ b. octet_if (third a b)) r)
        (triple a)) (λ u r. parsed (value_of u) r) ≡ second_step a r
    pairs a r = then_then (both_parse (octet_if (second a)) (λ b. octet_if (third a b)) r) _ _
        ∙ then_then (octet_if (second a) r) _ _ ∙ λ i. and_then (octet_if (second a) r) λ b w. then_then
        (octet_if (third a b) w) (pair b) (λ u v. parsed (value_of (a, u)) v) i

ahead_ddd : OneAhead (λ x. T (coded? x)) three_digits (ddd 3 0)
unfolding value_of second third
ahead_ddd = ahead_like (ddd 3 0) ddd-digits (ahead_on value_of same ahead_digits)
  where
    same : (u : ℕ × (ℕ × ℕ)) → T (leads? 2 0 u.0) × (T (second u.0 u.1.0) × T
        (third u.0 u.1.0 u.1.1))
        → T (coded? (value_of u)) × (three_digits (value_of u) ≡ (u.0 ∷ []) ++ ((u.1.0 ∷ []) ++ (u.1.1 ∷ [])))
    same (a, (b, c)) (h, (k, j)) =
        let (l, m, z) = leads_in 2 0 a h in
        let (o, p, y) = leads_in 1 _ b k in
        let (q, r, x) = leads_in 0 _ c j in
        let e : value_of (a, (b, c)) * 10 ^ 0 ≡ value_of (a, (b, c)) = omega arith in
        let (e₀, e₁, e₂) = three_back (a - 48) (b - 48) (c - 48) (omega arith) (omega arith) (omega arith) in
        let d₀ : 48 + value_of (a, (b, c)) / 100 ≡ a = omega arith in
        let d₁ : 48 + value_of (a, (b, c)) / 10 % 10 ≡ b = omega arith in
        let d₂ : 48 + value_of (a, (b, c)) % 10 ≡ c = omega arith in
        (coded_alone _ (subst (λ n. T (coded_from? n 1)) e x), λ i. d₀ i ∷ d₁ i ∷ d₂ i ∷ [])

-- ---- octets of a label
a_plain : T (plain? 97)
unfolding plain?
a_plain = tt

-- what is coded is neither the dot nor the backslash, nor plain
coded_not : (x : ℕ) → T (coded? x) → (eqb x 46 ≡ false) × (eqb x 92 ≡ false) × (plain? x ≡ false)
unfolding coded?
coded_not x h =
    let k = and_right (ltb x 256) _ h in
    let m = and_right (not (plain? x)) _ k in (
      is_false (eqb x 46) (and_left (not (eqb x 46)) _ m),
      is_false (eqb x 92) (and_right (not (eqb x 46)) _ m),
      is_false
          (plain? x) (and_left (not (plain? x)) _ k),
    )

-- what follows the two backslashes
abbrev escape_text : ℕ → List ℕ
escape_text x = cond (eqb x 46) (46 ∷ []) (cond (eqb x 92) (92 ∷ 92 ∷ []) (three_digits x))

abbrev Escaped : ℕ → Type 0
Escaped x = (x < 256) × T (not (plain? x))

backslash : List ℕ → Parsed ℕ
backslash t = and_then (strip (92 ∷ 92 ∷ []) t) λ u r. parsed 92 r

slash_or_digits : List ℕ → Parsed ℕ
slash_or_digits [] = failed []
slash_or_digits (c ∷ t) = cond (eqb c 92) (backslash (c ∷ t)) (ddd 3 0 (c ∷ t))

ahead_slash : OneAhead (λ x. (x ≡ 92) ⊎ T (coded? x)) (λ x. cond (eqb x 92) (92 ∷ 92 ∷ []) (three_digits x))
    slash_or_digits
unfolding slash_or_digits backslash ddd
ahead_slash = ahead_by (λ c. eqb c 92) slash_or_digits refl (λ c t e. rw e) (λ c t e. rw e) left right
    (ahead_only 92 (92 ∷ 92 ∷ [])) ahead_ddd
  where
    left : (a : ℕ) → a ≡ 92 → ((a ≡ 92) ⊎ T (coded? a))
        × (cond (eqb a 92) (92 ∷ 92 ∷ []) (three_digits a) ≡ 92 ∷ 92 ∷ [])
    left a e = (inl e, rw e)

    right : (a : ℕ) → T (coded? a) → ((a ≡ 92) ⊎ T (coded? a))
        × (cond (eqb a 92) (92 ∷ 92 ∷ []) (three_digits a) ≡ three_digits a)
    right a c = (inr c, rw (coded_not a c).1)

-- what follows the two backslashes, by the octet that is meant
ahead_escape : OneAhead Escaped escape_text escape
unfolding escape slash_or_digits backslash octet_if plain?
ahead_escape = ahead_by (λ c. eqb c 46) escape refl dot other left right
    (ahead_octet_if (λ c. eqb c 46) 46 tt) ahead_slash
  where
    dot : (c : ℕ) (t : List ℕ) → eqb c 46 ≡ true → escape (c ∷ t) ≡ octet_if (λ c. eqb c 46) (c ∷ t)
    dot c t e = rw (e, escape) (ap (λ x. parsed x t) (sym (eqb-true c 46 e)))

    other : (c : ℕ) (t : List ℕ) → eqb c 46 ≡ false → escape (c ∷ t) ≡ slash_or_digits (c ∷ t)
    other c t e = rw (e, escape) (go (eqb c 92) refl)
      where
        go : (b : Bool) → eqb c 92 ≡ b
            → (elim b as (λ x. Parsed ℕ) [
              | true ↦ and_then (strip (ascii "\\") t) (λ u r. parsed 92 r)
              | false ↦ ddd 3 0
                  (c ∷ t)
            ]) ≡ cond b (backslash (c ∷ t)) (ddd 3 0 (c ∷ t))
        go true d = rw (eqb-true c 92 d)
        go false d = refl

    left : (a : ℕ) → T (eqb a 46) → Escaped a × (escape_text a ≡ a ∷ [])
    left a e = let z = eqb-true a 46 (is_true (eqb a 46) e) in rw z ((omega arith, tt), refl)

    right : (a : ℕ) → (a ≡ 92) ⊎ T (coded? a) → Escaped a
        × (escape_text a ≡ cond (eqb a 92) (92 ∷ 92 ∷ []) (three_digits a))
    right a (inl e) = rw e ((omega arith, tt), refl)
    right a (inr c) = let k = coded_not a c in (((coded_out a c).0, rw k.2 tt), rw k.0)

pub ahead_spelled : OneAhead (λ x. x < 256) spelled spelled_at
unfolding spelled_at octet_if spelled escape
ahead_spelled = ahead_by plain? spelled_at refl (λ c t e. rw (e, spelled_at)) (λ c t e. rw (e, spelled_at)) left right
    (ahead_octet_if plain? 97 a_plain) (ahead_lit (92 ∷ 92 ∷ []) ahead_escape)
  where
    left : (a : ℕ) → T (plain? a) → (a < 256) × (spelled a ≡ a ∷ [])
    left a h = (omega (arith, plain_in a h), spelled_plain a h)

    right : (a : ℕ) → Escaped a → (a < 256) × (spelled a ≡ (92 ∷ 92 ∷ []) ++ escape_text a)
    right a h = (h.0, rw (is_false (plain? a) h.1) (go (eqb a 46) (eqb a 92)))
      where
        go : (x y : Bool) → cond x (ascii "\\\\.") (cond y (ascii "\\\\\\\\") (ascii "\\\\" ++ three_digits a))
            ≡ 92 ∷ 92 ∷ cond x (46 ∷ []) (cond y (92 ∷ 92 ∷ []) (three_digits a))
        go true y = refl
        go false true = refl
        go false false = refl
