-- Hexadecimal digits two by two, in quotes: how a reader goes through them.
use Rattle.std.specs.Prelude.{◌≡◌, Bool, ℕ, ◌+◌, ◌-◌, ◌*◌, ◌/◌, ◌%◌, ◌≤◌, ◌<◌, leb, ltb, length, take, drop, get_or, Result, Ok, Err, IsErrAnd}
use Rattle.std.proofs.Math.Path.{refl}
use Rattle.std.proofs.Common.{sym, ◌∙◌, ap, subst, arith, leb→le, ltb→lt, length-append, length-drop, drop_of_length-le, take-add, drop-drop}
use Rattle.std.proofs.Math.Bool.{true, false}
use mathlib.Core.List.{List, [], ◌∷◌, ◌++◌, append-nil}
use borrow.Author.Tests.{lt-ltb, le-ltb}
use Rattle.std.proofs.Math.Dec.{T, not_T}
use Rattle.octets.specs.Lists.{Octets, each, paired}
use Rattle.octets.specs.Bits.{is_false, and_left, and_right, All-append}
use Rattle.octets.specs.Parsed.{parsed, failed, and_then, otherwise, strip}
use Rattle.octets.specs.Codec.{Avoids}
use Rattle.octets.specs.Overlay.{each_append, each_single}
use Rattle.octets.specs.Decimal.{digit?, digit_in}
use Rattle.octets.specs.Hexadecimal.{hex_digit, hex_digit_in, hex_octet, capital?, unhex, unhex_back, octet_codec}
use Rattle.octets.specs.Hexadecimal.{hex_octet_avoids, hex_pairs, hex}
use Rattle.octets.specs.Fields.{drop_one}
use Rattle.hex_or_octets.specs.Digits.{Hexes, hexes, paired_hexes}
use Rattle.hex_or_octets.specs.declared.HexDigits.{HexDigits}
use Rattle.parse_tokens.specs.declared.Cursor.{Cursor}
use Rattle.parse_tokens.specs.Cursor.{Safe, Keeps, keeps_then, Passed, Advanced, went_keeps}
use Rattle.parse_tokens.specs.Cursor.{reads_stop, reads_parsed}
use Rattle.parse_tokens.specs.Step.{found_lit, found_stays}
use Rattle.parse_tokens.specs.Many.{run_of, Going, going_start, going_more, going_stop, many_once}
use Rattle.parse_tokens.specs.Leaf.{found_stop, passed_took, passed_stop, passed_place, stays_at, strip_at_once}
use Rattle.parse_tokens.specs.Value.{ValueRead, value_stop, at_exit}

-- octets and the quote after them were read; the same with the quote before them
abbrev pub PairsRead : List ℕ → Cursor → Result (Cursor × HexDigits) ℕ → Type 0
PairsRead t c r = ValueRead hex_pairs.parse (λ h l. l ≡ paired h.digits.now) t (Ok c) r

abbrev pub HexRead : List ℕ → Cursor → Result (Cursor × HexDigits) ℕ → Type 0
HexRead t c r = ValueRead hex.parse (λ h l. l ≡ paired h.digits.now) t (Ok c) r

-- the whole pairs of digits from a place to another are those of octets
pub record PairsBefore (t : List ℕ) (from n : ℕ) : Type 0 where
  pub so_far : List ℕ
  pub digits : take ((n - from) / 2 * 2) (drop from t) ≡ each hex_octet so_far
  pub octets : Octets so_far
  pub long : (n - from) / 2 ≡ length so_far

-- which octets of the text the digits are, from a place to the quote before the reader; where it stopped, the whole
-- pairs before that
abbrev pub DigitsFrom : List ℕ → ℕ → Result (Cursor × HexDigits) ℕ → Type 0
DigitsFrom t from (Ok x) = (from < x.0.at) × (x.1.digits.now ≡ take (x.0.at - 1 - from) (drop from t))
DigitsFrom t from (Err n) = PairsBefore t from n

-- ---- one digit
-- x is the digit of n
pub record HexValue (x : ℕ) : Type 0 where
  pub n : ℕ
  pub bounded : n < 16
  pub is : hex_digit n ≡ x

-- r is whether a digit is at a place
pub record HexAt (t : List ℕ) (at : ℕ) (r : Bool) : Type 0 where
  pub inside : r ≡ true → at < length t
  pub yes : r ≡ true → HexValue (get_or t at 0)
  pub no : r ≡ false → unhex (drop at t) ≡ failed (drop at t)

module _ {t : List ℕ} {at : ℕ} where
  one : {n : ℕ} → at < length t → n < 16 → hex_digit n ≡ get_or t at 0 → HexAt t at true
  one {n} h k e = record {
    inside = λ d. h;
    yes = λ d. record { n = n; bounded = k; is = e };
    no = λ d. absurd (subst T d tt);
  }

  pub hex_decimal : at < length t → 48 ≤ get_or t at 0 → get_or t at 0 ≤ 57 → HexAt t at true
  hex_decimal h k l = one {n = get_or t at 0 - 48} h (omega arith) (rw (lt-ltb (get_or t at 0 - 48) 10 (omega arith)) (omega arith))

  pub hex_capital : at < length t → 65 ≤ get_or t at 0 → get_or t at 0 ≤ 70 → HexAt t at true
  hex_capital h k l = one {n = get_or t at 0 - 55} h (omega arith) (rw (le-ltb (get_or t at 0 - 55) 10 (omega arith)) (omega arith))

  none : unhex (drop at t) ≡ failed (drop at t) → HexAt t at false
  none e = record {
    inside = λ d. absurd (subst T (sym d) tt);
    yes = λ d. absurd (subst T (sym d) tt);
    no = λ d. e;
  }

  pub hex_past : length t ≤ at → HexAt t at false
  unfolding unhex
  hex_past h = none (rw (drop_of_length-le t h))

  pub hex_other : at < length t → (48 ≤ get_or t at 0 → get_or t at 0 ≤ 57 → ⊥)
      → (65 ≤ get_or t at 0 → get_or t at 0 ≤ 70 → ⊥) → HexAt t at false
  unfolding unhex
  hex_other h f g = none (rw (
    drop_one t at h,
    is_false (digit? (get_or t at 0)) (not_T (digit? (get_or t at 0)) λ u. let z = digit_in (get_or t at 0) u in f z.0 z.1),
    unhex,
    is_false (capital? (get_or t at 0)) (not_T (capital? (get_or t at 0)) no),
  ))
    where
      no : T (capital? (get_or t at 0)) → ⊥
      no u = g (leb→le 65 (get_or t at 0) (and_left (leb 65 (get_or t at 0)) (ltb (get_or t at 0) 71) u))
          (omega (arith, ltb→lt (get_or t at 0) 71 (and_right (leb 65 (get_or t at 0)) (ltb (get_or t at 0) 71) u)))

-- ---- two digits
module _ (w : List ℕ) where
  pair_none : {u : List ℕ} → unhex w ≡ failed u → octet_codec.parse w ≡ failed u
  pair_none e = rw e

  module _ {n : ℕ} {v : List ℕ} (e : unhex w ≡ parsed n v) where
    pair_half : {u : List ℕ} → unhex v ≡ failed u → octet_codec.parse w ≡ failed u
    pair_half d = rw (e, d)

    pair_took : {m : ℕ} {u : List ℕ} → unhex v ≡ parsed m u → octet_codec.parse w ≡ parsed (n * 16 + m) u
    pair_took d = rw (e, d)

-- the octet of two digits is written so
pair-text : (n m : ℕ) → m < 16 → hex_octet (n * 16 + m) ≡ hex_digit n ∷ hex_digit m ∷ []
pair-text n m h =
    let p : (n * 16 + m) / 16 ≡ n = omega arith in
    let q : (n * 16 + m) % 16 ≡ m = omega arith in
    rw (p, q)

digit_there : (t : List ℕ) (at : ℕ) → at < length t → (x : HexValue (get_or t at 0))
    → unhex (drop at t) ≡ parsed x.n (drop (at + 1) t)
digit_there t at h x =
    rw (drop_one t at h) (subst (λ y. unhex (y ∷ drop (at + 1) t) ≡ parsed x.n (drop (at + 1) t)) x.is
    (unhex_back x.n (drop (at + 1) t) x.bounded))

-- two octets more of a text
two_more : (t : List ℕ) (from at : ℕ) → from ≤ at → at + 1 < length t
    → take (at + 2 - from) (drop from t) ≡ take (at - from) (drop from t) ++ (get_or t at 0 ∷ get_or t (at + 1) 0 ∷ [])
two_more t from at h k =
    let p : at + 2 - from ≡ at - from + 2 = omega arith in
    let q : from + (at - from) ≡ at = omega arith in
    rw (
      p,
      take-add (at - from) 2 (drop from t),
      drop-drop (at - from) from t,
      q,
      drop_one t at (omega arith),
      drop_one t (at + 1) k,
    )

-- ---- the octets so far
no_quote : Avoids (λ x. x < 256) hex_octet 34
no_quote = hex_octet_avoids 34 (omega arith)

no_octet : octet_codec.parse [] ≡ failed []
unfolding unhex
no_octet = refl

pub record Pairs (t : List ℕ) (c : Cursor) (at : ℕ) : Type 0 where
  pub l : List ℕ
  pub goes : Going (run_of 34 octet_codec) t (run_of 34 octet_codec (drop c.at t)) at l
  pub digits : take (at - c.at) (drop c.at t) ≡ each hex_octet l
  pub octets : Octets l
  pub within : at ≤ length t
  pub long : at ≡ c.at + 2 * length l

pub pairs_start : (t : List ℕ) (c : Cursor) → Safe t c → Pairs t c c.at
unfolding each
pairs_start t c h = record {
  l = [];
  goes = going_start (run_of 34 octet_codec) t c.at;
  digits =
      let z : c.at - c.at ≡ 0 = omega arith in
      rw z;
  octets = tt;
  within = h.inside;
  long = omega arith;
}

-- the digits of whole octets
pub pairs_hexes : {t : List ℕ} {c : Cursor} {at : ℕ} → Pairs t c at → Hexes (take (at - c.at) (drop c.at t))
pairs_hexes w = rw w.digits (hexes w.l w.octets)

module _ {t : List ℕ} {c : Cursor} {at : ℕ} (w : Pairs t c at) where
  -- no digit: the quote, or the reader stops there
  closes : unhex (drop at t) ≡ failed (drop at t)
      → run_of 34 octet_codec (drop c.at t) ≡ and_then
      (otherwise (and_then (strip (34 ∷ []) (drop at t)) λ u r. parsed [] r) (failed (drop at t))) (λ u r.
      parsed (w.l ++ u) r)
  closes e = w.goes.goes ∙ rw (many_once octet_codec 34 no_quote no_octet (drop at t), pair_none (drop at t) e)

  module _ {x : Cursor} (f : Safe t c) (p : HexAt t at false) (s : Advanced c at x) where
    kept : Keeps t (Ok c) (Ok x)
    kept = went_keeps f s (omega (arith, w.long)) w.within

    pub pairs_end : {r : Cursor} {h : HexDigits} → Passed (34 ∷ []) t (Ok x) (Ok r)
        → h.digits.now ≡ take (at - c.at) (drop c.at t) → PairsRead t c (Ok (r, h))
    unfolding hex_pairs
    pairs_end {r} q d =
        let e : strip (34 ∷ []) (drop at t) ≡ parsed tt (drop r.at t) = rw s.at at (passed_took q) in
        let k = keeps_then kept q.keeps in
        record {
          found = record {
            reads = reads_parsed (closes (p.no refl) ∙ rw (e, append-nil)) refl
                (sym (paired_hexes w.l w.octets) ∙ ap paired (sym w.digits ∙ sym d));
            moves = k.moves;
          };
          keeps = k;
        }

    pub pairs_stop : {n : ℕ} → Passed (34 ∷ []) t (Ok x) (Err n) → PairsRead t c (Err n)
    unfolding hex_pairs
    pairs_stop {n} q =
        let e : strip (34 ∷ []) (drop at t) ≡ failed (drop n t) = rw s.at at (passed_stop q) in
        let k = keeps_then kept q.keeps in
        value_stop {P = λ l. Unit {0}} record {
          reads = reads_stop (closes (p.no refl) ∙ rw e (ap failed (stays_at (strip_at_once 34 (drop at t)) e)));
          moves = k.moves;
        }

  -- the pairs before a place that is at most one octet on
  pub pairs_before : (n : ℕ) → at ≤ n → n ≤ at + 1 → PairsBefore t c.at n
  pairs_before n h k =
      let e : (n - c.at) / 2 * 2 ≡ at - c.at = omega (arith, w.long) in
      record { so_far = w.l; digits = rw e w.digits; octets = w.octets; long = omega (arith, w.long) }

  module _ (p : HexAt t at true) where
    first : HexValue (get_or t at 0)
    first = p.yes refl

    -- a digit, and no second one
    pub pairs_half : HexAt t (at + 1) false → PairsRead t c (Err (at + 1))
    unfolding hex_pairs
    pairs_half q = value_stop {P = λ l. Unit {0}} (found_stop
        (going_stop octet_codec 34 no_quote no_octet w.goes
        (λ d. omega (arith, d.is, first.is, (hex_digit_in first.n first.bounded).0))
        (pair_half (drop at t) (digit_there t at (p.inside refl) first) (q.no refl)))
        (omega (arith, w.long)) (omega (arith, p.inside refl)))

    -- two digits
    pub pairs_more : HexAt t (at + 1) true → Pairs t c (at + 2)
    pairs_more q =
        let second = q.yes refl in
        let room = q.inside refl in
        let x = first.n * 16 + second.n in
        let two : at + 1 + 1 ≡ at + 2 = omega arith in
        record {
          l = w.l ++ (x ∷ []);
          goes = going_more octet_codec 34 no_quote no_octet w.goes
              (pair_took (drop at t) (digit_there t at (p.inside refl) first)
              (rw two at (digit_there t (at + 1) room second)));
          digits = two_more t c.at at (omega (arith, w.long)) room
              ∙ rw (
                w.digits,
                each_append,
                each_single,
                pair-text first.n second.n second.bounded,
                first.is,
                second.is,
              );
          octets = All-append (λ x. x < 256) w.l (x ∷ []) w.octets
              (omega (arith, first.bounded, second.bounded), tt);
          within = omega (arith, room);
          long = rw length-append (omega (arith, w.long));
        }

-- where there is no quote the reader stops at once
no_quote_there : {t : List ℕ} {c : Cursor} {n : ℕ} → Safe t c → Passed (34 ∷ []) t (Ok c) (Err n) → n ≡ c.at
no_quote_there {t} {c} {n} f q =
    let e : drop c.at t ≡ drop n t = stays_at (strip_at_once 34 (drop c.at t)) (passed_stop q) in
    omega (arith, ap length e, length-drop c.at t, length-drop n t, f.inside, q.keeps.moves.within.1)

pub quote_missing : {t : List ℕ} {c : Cursor} {n from : ℕ} → Safe t c → Passed (34 ∷ []) t (Ok c) (Err n)
    → c.at ≤ from → PairsBefore t from n
unfolding each
quote_missing {t} {c} {n} {from} f q h =
    let e : (n - from) / 2 * 2 ≡ 0 = omega (arith, no_quote_there f q) in
    record { so_far = []; digits = rw e refl; octets = tt; long = omega (arith, no_quote_there f q) }

pub quote_after : {t : List ℕ} {c x : Cursor} {at n : ℕ} → Pairs t c at → Advanced c at x → Safe t x
    → Passed (34 ∷ []) t (Ok x) (Err n) → PairsBefore t c.at n
quote_after {n = n} w s f q = pairs_before w n (omega (arith, no_quote_there f q, s.at)) (omega (arith, no_quote_there f q, s.at))

-- what a reader's `?` on the quote hands on
pub digits_stop : {t : List ℕ} {c : Cursor} {n : ℕ} (r : Result (Cursor × HexDigits) ℕ) → Safe t c
    → Passed (34 ∷ []) t (Ok c) (Err n) → IsErrAnd r (λ k. k ≡ n) → DigitsFrom t (c.at + 1) r
digits_stop {t} {c} r f q e = at_exit (λ r. DigitsFrom t (c.at + 1) r) e (quote_missing f q (omega arith))

-- the digits begin after the quote
pub digits_opened : {t : List ℕ} {c o : Cursor} (r : Result (Cursor × HexDigits) ℕ) → Passed (34 ∷ []) t (Ok c) (Ok o)
    → DigitsFrom t o.at r → DigitsFrom t (c.at + 1) r
digits_opened {t} r q x = subst (λ n. DigitsFrom t n r) (passed_place q) x

-- the quote before them
module _ {t : List ℕ} {c : Cursor} where
  pub hex_opened : {o : Cursor} {r : Result (Cursor × HexDigits) ℕ} → Passed (34 ∷ []) t (Ok c) (Ok o)
      → PairsRead t o r → HexRead t c r
  unfolding hex
  hex_opened q x = record { found = found_lit q x.found; keeps = keeps_then q.keeps x.keeps }

  pub hex_stop : {n : ℕ} → Passed (34 ∷ []) t (Ok c) (Err n) → HexRead t c (Err n)
  unfolding hex
  hex_stop q = value_stop {P = λ l. Unit {0}} (found_lit q found_stays)

-- for `hex_at`
pub ruleset digit_tests = (hex_decimal, hex_capital, hex_past, hex_other)

-- for `pairs`
pub ruleset pairs_steps = (pairs_start, pairs_half, pairs_more, pairs_hexes, pairs_end)
