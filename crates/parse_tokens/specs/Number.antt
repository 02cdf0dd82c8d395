-- Numbers of any size: what is kept of them, and how a reader goes through one.
use Rattle.std.specs.Prelude.{◌≡◌, refl, Bool, true, false, List, [], ◌∷◌, ℕ, ◌+◌, ◌-◌, ◌*◌, ◌≤◌, ◌<◌, min, T, eqb, leb, ltb, length, drop, get_or, Result, Ok, Err, Option, MatchOption, IfOk}
use Rattle.std.proofs.Common.{sym, ◌∙◌, ap, arith, lt-ltb, le-ltb, ltb-true, ltb-false, eq-eqb, ne_eqb, eqb-true, T_not, le→leb, lt→ltb, leb→le, ltb→lt}
use Rattle.std.proofs.lemmas.Bool.{eqb-false}
use Rattle.std.proofs.Math.Dec.{not_T}
use Rattle.octets.specs.Bits.{is_true, is_false, both, unequal, and_left, and_right}
use Rattle.octets.specs.Parsed.{Parsed, parsed, failed, and_then, strip}
use Rattle.octets.specs.Decimal.{digit?, digit_test, NoDigit, leading?, run, run_digit, run_stop, positive}
use Rattle.octets.specs.Decimal.{natural}
use Rattle.octets.specs.Fields.{drop_one}
use Rattle.parse_tokens.specs.declared.Cursor.{Cursor}
use Rattle.parse_tokens.specs.Cursor.{Safe, keeps_then, Passed, Advanced, went_keeps}
use Rattle.parse_tokens.specs.Step.{found_as, found_behind}
use Rattle.parse_tokens.specs.Leaf.{found_took, found_stop, found_same, found_entry, passed_took, passed_stop}
use Rattle.parse_tokens.specs.Leaf.{strip_first, strip_not}
use Rattle.parse_tokens.specs.Value.{reached, ValueRead, value_stop}

-- what is kept of a number: one above 2^63 counts as 2^63, which is more than the octets of any text
abbrev pub capped : ℕ → ℕ
capped n = min n 9223372036854775808

-- a test against a small number is the same of what was kept
pub capped_below : (n k : ℕ) → k ≤ 4294967296 → ltb (capped n) k ≡ ltb n k
capped_below n k h = go (ltb n k) refl
  where
    go : (b : Bool) → ltb n k ≡ b → ltb (capped n) k ≡ b
    go true e = lt-ltb (capped n) k (omega (arith, ltb-true n k e))
    go false e = le-ltb (capped n) k (omega (arith, ltb-false n k e))

pub capped_is : (n k : ℕ) → k ≤ 4294967296 → eqb (capped n) k ≡ eqb n k
capped_is n k h = go (eqb n k) refl
  where
    go : (b : Bool) → eqb n k ≡ b → eqb (capped n) k ≡ b
    go true e = eq-eqb (capped n) k (omega (arith, eqb-true n k e))
    go false e = ne_eqb (capped n) k (λ d. eqb-false n k e (omega (arith, d)))

-- a number was read
abbrev pub NumberRead : List ℕ → Cursor → Result (Cursor × ℕ) ℕ → Type 0
NumberRead t c r = ValueRead natural (λ v n. v ≡ capped n) t (Ok c) r

-- a number that is not 0 was read
abbrev pub PositiveRead : List ℕ → Cursor → Result (Cursor × ℕ) ℕ → Type 0
PositiveRead t c r = ValueRead positive (λ v n. (0 < n) × (v ≡ capped n)) t (Ok c) r

-- ---- digits
-- the digit of the number d is at a place
pub record Digit (t : List ℕ) (at d : ℕ) : Type 0 where
  pub inside : at < length t
  pub is : get_or t at 0 ≡ 48 + d
  pub low : d ≤ 9

-- the number of the digit at a place, if there is one
abbrev pub DigitAt : List ℕ → ℕ → Option ℕ → Type 0
DigitAt t at r = MatchOption r (NoDigit (drop at t)) (Digit t at)

-- ---- the parser's first octet
positive_first : (w : ℕ) (r : List ℕ) → 0 < w → w ≤ 9 → positive ((48 + w) ∷ r) ≡ run w r
unfolding positive
positive_first w r h k =
    let z : 48 + w - 48 ≡ w = omega arith in
    rw (
      is_true (leading? (48 + w)) (both (leb 49 (48 + w)) (ltb (48 + w) 58) (le→leb 49 (48 + w) (omega arith))
          (lt→ltb (48 + w) 58 (omega arith))),
      positive,
      z,
    )

positive_other : (x : ℕ) (r : List ℕ) → (49 ≤ x → x ≤ 57 → ⊥) → positive (x ∷ r) ≡ failed (x ∷ r)
unfolding positive
positive_other x r f = rw (is_false (leading? x) (not_T (leading? x) no), positive)
  where
    no : T (leading? x) → ⊥
    no u = f (leb→le 49 x (and_left (leb 49 x) (ltb x 58) u))
        (omega (arith, ltb→lt x 58 (and_right (leb 49 x) (ltb x 58) u)))

positive_empty : positive [] ≡ failed []
unfolding positive
positive_empty = refl

natural-zero : (w r : List ℕ) → strip (48 ∷ []) w ≡ parsed tt r → natural w ≡ parsed 0 r
unfolding natural
natural-zero w r e = rw (strip_first 48 w r e)

natural_other : (w u : List ℕ) → strip (48 ∷ []) w ≡ failed u → natural w ≡ positive w
unfolding natural positive
natural_other w u e = go w (λ s d. strip_not 48 w s u e d)
  where
    go : (w : List ℕ) → ((s : List ℕ) → w ≡ 48 ∷ s → ⊥) → natural w ≡ positive w
    go [] h = refl
    go (x ∷ w) h = rw (unequal x 48 (λ e. h w (ap (λ y. y ∷ w) e)), natural)

-- ---- how the reader goes through a number that is not 0
-- the digits up to `at` are those of n
pub record DigitsLoop (t : List ℕ) (c : Cursor) (at value : ℕ) : Type 0 where
  pub n : ℕ
  pub goes : positive (drop c.at t) ≡ run n (drop at t)
  pub is : value ≡ capped n
  pub filled : 0 < n
  pub within : at ≤ length t
  pub onward : c.at ≤ at

module _ {t : List ℕ} {c : Cursor} (f : Safe t c) where
  stops : positive (drop c.at t) ≡ failed (drop c.at t) → PositiveRead t c (Err c.at)
  stops e = value_stop (found_stop {P = λ n. Unit {0}} e (omega arith) f.inside)

  -- no digit there, or 0
  pub positive_none : NoDigit (drop c.at t) → PositiveRead t c (Err c.at)
  positive_none h = stops (go (drop c.at t) h)
    where
      go : (w : List ℕ) → NoDigit w → positive w ≡ failed w
      go [] h = positive_empty
      go (x ∷ w) h = positive_other x w λ a b. T_not (digit? x) h (digit_test x (omega arith) b)

  pub positive_zero_lem : Digit t c.at 0 → PositiveRead t c (Err c.at)
  positive_zero_lem d = stops (rw (drop_one t c.at d.inside, d.is) (positive_other 48 _ λ a b. omega arith))

  pub digits_end : {at value : ℕ} {r : Cursor} → DigitsLoop t c at value → NoDigit (drop at t) → Advanced c at r
      → PositiveRead t c (Ok (r, value))
  digits_end {at} d e s =
      let k = went_keeps f s d.onward d.within in
      record {
        found = found_took f (d.goes ∙ run_stop d.n (drop at t) e) d.onward d.within s (d.filled, d.is);
        keeps = k;
      }

module _ {t : List ℕ} {c : Cursor} where
  -- the first digit, and one more
  pub digits_start : {w : ℕ} → Digit t c.at w → 0 < w → DigitsLoop t c (c.at + 1) w
  digits_start {w} d z = record {
    n = w;
    goes = rw (drop_one t c.at d.inside, d.is) (positive_first w _ z d.low);
    is = omega (arith, d.low);
    filled = z;
    within = omega (arith, d.inside);
    onward = omega arith;
  }

  pub digits_more : {at value w v : ℕ} → DigitsLoop t c at value → Digit t at w → v ≡ capped (value * 10 + w)
      → DigitsLoop t c (at + 1) v
  digits_more {at} {value} {w} {v} d k e = record {
    n = d.n * 10 + w;
    goes = d.goes ∙ rw (drop_one t at k.inside, k.is) (run_digit d.n w _ (omega (arith, k.low)));
    is = omega (arith, d.is);
    filled = omega (arith, d.filled);
    within = omega (arith, k.inside);
    onward = omega (arith, d.onward);
  }

-- ---- 0 alone, or such a number
module _ {t : List ℕ} {c : Cursor} where
  pub number_zero_lem : {z : Cursor} → Passed (48 ∷ []) t (Ok c) (Ok z) → NumberRead t c (Ok (z, 0))
  number_zero_lem {z} q = record {
    found = found_same natural
        (rw (passed_took q) (sym (natural-zero (drop c.at t) (drop z.at t) (passed_took q))))
        (found_entry {P = λ n. 0 ≡ capped n} q 0 refl);
    keeps = q.keeps;
  }

  pub number_other : {r : Result (Cursor × ℕ) ℕ} {n : ℕ} → Passed (48 ∷ []) t (Ok c) (Err n) → PositiveRead t c r
      → NumberRead t c r
  number_other {r} q y = record {
    found = found_same natural (sym (natural_other (drop c.at t) _ (passed_stop q)))
        (found_as y.found λ n h. kept n r h);
    keeps = y.keeps;
  }
    where
      kept : (n : ℕ) (r : Result (Cursor × ℕ) ℕ) → IfOk r (λ x. (0 < n) × (x.1 ≡ capped n))
          → IfOk r (λ x. x.1 ≡ capped n)
      kept n (Ok x) h = h.1
      kept n (Err k) h = h

-- ---- a number and the fixed octets after it
abbrev pub till_parse : List ℕ → List ℕ → Parsed ℕ
till_parse title w = and_then (natural w) λ a w. and_then (strip title w) λ u r. parsed a r

abbrev pub TillRead : List ℕ → List ℕ → Cursor → Result (Cursor × ℕ) ℕ → Type 0
TillRead title t c r = ValueRead (till_parse title) (λ v n. v ≡ capped n) t (Ok c) r

module _ {title t : List ℕ} {c : Cursor} where
  pub till_read : {d e : Cursor} {v : ℕ} → NumberRead t c (Ok (d, v)) → Passed title t (Ok d) (Ok e)
      → TillRead title t c (Ok (e, v))
  till_read x q = record { found = found_behind x.found q; keeps = keeps_then x.keeps q.keeps }

  pub till_stop : {r : Result (Cursor × ℕ) ℕ} {n : ℕ} → NumberRead t c r → Passed title t (reached r) (Err n)
      → TillRead title t c (Err n)
  till_stop x q = value_stop (found_behind x.found q)

-- for `positive`
pub ruleset positive_steps = (positive_none, positive_zero_lem, digits_start, digits_more)
