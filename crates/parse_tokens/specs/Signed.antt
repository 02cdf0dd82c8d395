-- Signed numbers: what is kept of one, and how it is read.
use Rattle.std.specs.Prelude.{◌≡◌, refl, Bool, true, false, cond, List, [], ◌∷◌, ℕ, ◌+◌, ◌-◌, ◌*◌, ◌≤◌, ◌<◌, ltb, eqb, length, drop, Option, Some, None, Result, Ok, Err}
use Rattle.std.proofs.Common.{sym, ◌∙◌, ap, inl, inr, arith, lt-ltb, le-ltb, le-leb}
use Rattle.std.proofs.lemmas.Bool.{lt-leb, cases_lt}
use Rattle.octets.specs.Parsed.{Parsed, parsed, failed, and_then, or_else, strip, parsed≢failed}
use Rattle.octets.specs.Decimal.{digit?, leading?, run, positive, natural}
use Rattle.spelling.specs.Spelling.{Signed, plus, minus}
use Rattle.strict.specs.Spelt.{from_sum, signed_number}
use Rattle.strict.specs.Meaning.{ttl?, unsigned}
use Rattle.parse_tokens.specs.declared.Cursor.{Cursor}
use Rattle.parse_tokens.specs.Cursor.{Reached, keeps_then, Passed}
use Rattle.parse_tokens.specs.Step.{Found, found_lit, found_map}
use Rattle.parse_tokens.specs.Leaf.{found_same, passed_took, passed_stop, strip_first, AtOnce, goes, stays}
use Rattle.parse_tokens.specs.Leaf.{strip_at_once}
use Rattle.parse_tokens.specs.Value.{ValueRead, value_stop}
use Rattle.parse_tokens.specs.Number.{capped, NumberRead, PositiveRead}

-- the 32 bits of a TTL in range
abbrev pub ttl_bits : Signed → Option ℕ
ttl_bits s = cond (ttl? s) (Some (unsigned s)) None

-- a signed number was read, and its bits kept if it is in range
abbrev pub SignedRead : List ℕ → Cursor → Result (Cursor × Option ℕ) ℕ → Type 0
SignedRead t c r = ValueRead signed_number.parse (λ b s. b ≡ ttl_bits s) t (Ok c) r

-- ---- what the parser answers
-- a parser of numbers that stops, stops at the first octet
run_at_once : (n : ℕ) (u w : List ℕ) → AtOnce u (run n w)
run_at_once n u [] = goes
run_at_once n u (d ∷ w) = go (digit? d) (run_at_once (n * 10 + (d - 48)) u w)
  where
    go : (b : Bool) → AtOnce u (run (n * 10 + (d - 48)) w)
        → AtOnce {A = ℕ} u (elim b [ true ↦ run (n * 10 + (d - 48)) w | false ↦ parsed n (d ∷ w) ])
    go true h = h
    go false h = goes

positive_at_once : (w : List ℕ) → AtOnce w (positive w)
unfolding positive
positive_at_once [] = stays
positive_at_once (d ∷ w) = go (leading? d)
  where
    go : (b : Bool) → AtOnce {A = ℕ} (d ∷ w) (elim b [ true ↦ run (d - 48) w | false ↦ failed (d ∷ w) ])
    go true = run_at_once (d - 48) (d ∷ w) w
    go false = stays

natural_at_once : (w : List ℕ) → AtOnce w (natural w)
unfolding natural
natural_at_once [] = stays
natural_at_once (d ∷ w) = go (eqb d 48)
  where
    go : (b : Bool) → AtOnce {A = ℕ} (d ∷ w) (elim b [ true ↦ parsed 0 w | false ↦ positive (d ∷ w) ])
    go true = goes
    go false = positive_at_once (d ∷ w)

-- a number, or a minus and a number, as the parser joins them
abbrev joined : Parsed ℕ → Parsed ℕ → Parsed Signed
joined o p = and_then (or_else (and_then o λ a r. parsed (inl a) r) (and_then p λ b r. parsed (inr b) r)) λ u r. parsed
    (from_sum plus minus u) r

-- with no minus there, a number
signed_plus : (w u : List ℕ) → strip (45 ∷ []) w ≡ failed u
    → and_then (natural w) (λ n r. parsed (plus n) r) ≡ signed_number.parse w
unfolding signed_number
signed_plus w u e = go (natural_at_once w) (strip_at_once 45 w) e
  where
    one : (b : Bool) → w ≡ cond b w w
    one true = refl
    one false = refl

    go : {o : Parsed ℕ} {s : Parsed (Unit {0})} → AtOnce w o → AtOnce w s → s ≡ failed u
        → and_then o (λ n r. parsed (plus n) r) ≡ joined o (and_then s λ u r. positive r)
    go goes y e = refl
    go stays goes e = absurd (parsed≢failed e)
    go stays stays e = ap (λ v. failed v) (one (ltb (length w) (length w)))

-- after a minus, a number that is not 0
signed_minus : (w r : List ℕ) → strip (45 ∷ []) w ≡ parsed tt r
    → and_then (positive r) (λ n r. parsed (minus n) r) ≡ signed_number.parse w
unfolding signed_number natural positive
signed_minus w r e = rw (strip_first 45 w r e) (go (positive_at_once r))
  where
    go : {o : Parsed ℕ} → AtOnce r o → and_then o (λ n r. parsed (minus n) r) ≡ joined (failed (45 ∷ r)) o
    go goes = refl
    go stays = rw (lt-ltb (length r) (length (45 ∷ r)) (omega arith))

-- ---- what is kept
module _ {v : ℕ} where
  pub plus_out : 2147483648 ≤ v → ttl_bits (plus v) ≡ None
  unfolding ttl?
  plus_out h = rw (le-ltb v 2147483648 h)

  pub plus_in : v < 2147483648 → ttl_bits (plus v) ≡ Some v
  unfolding ttl? unsigned
  plus_in h = rw (lt-ltb v 2147483648 h)

  pub minus_out : 2147483648 < v → ttl_bits (minus v) ≡ None
  unfolding ttl?
  minus_out h = rw (lt-leb v 2147483648 h)

  pub minus_in : v ≤ 2147483648 → ttl_bits (minus v) ≡ Some (4294967296 - v)
  unfolding ttl? unsigned
  minus_in h = rw (le-leb v 2147483648 h)

-- a number above 2^63 counts as one
plus_kept : {v : ℕ} (n : ℕ) → v ≡ capped n → ttl_bits (plus v) ≡ ttl_bits (plus n)
plus_kept {v} n e = elim (cases_lt n 2147483648) [
  | inl h ↦ ap (λ m. ttl_bits (plus m)) (omega arith)
  | inr h ↦ plus_out (omega arith) ∙ sym (plus_out h)
]

minus_kept : {v : ℕ} (n : ℕ) → v ≡ capped n → ttl_bits (minus v) ≡ ttl_bits (minus n)
minus_kept {v} n e = elim (cases_lt 2147483648 n) [
  | inl h ↦ minus_out (omega arith) ∙ sym (minus_out h)
  | inr h ↦ ap (λ m. ttl_bits (minus m)) (omega arith)
]

-- ---- the reader
module _ {t : List ℕ} {c : Cursor} where
  module _ {m : Cursor} (q : Passed (45 ∷ []) t (Ok c) (Ok m)) where
    negative : {r : Reached} {P : ℕ → Type 0} {Q : Signed → Type 0} → Found positive P t (Ok m) r
        → ((n : ℕ) → P n → Q (minus n)) → Found signed_number.parse Q t (Ok c) r
    negative x h = found_same signed_number.parse
        (rw (passed_took q) (signed_minus (drop c.at t) (drop m.at t) (passed_took q)))
        (found_lit q (found_map minus h x))

    pub signed_negative : {r : Cursor} {v : ℕ} {b : Option ℕ} → PositiveRead t m (Ok (r, v)) → b ≡ ttl_bits (minus v)
        → SignedRead t c (Ok (r, b))
    signed_negative y e = record {
      found = negative y.found λ n k. e ∙ minus_kept n k.1;
      keeps = keeps_then q.keeps y.keeps;
    }

    pub negative_stop : {n : ℕ} → PositiveRead t m (Err n) → SignedRead t c (Err n)
    negative_stop y = value_stop (negative {Q = λ s. Unit {0}} y.found λ n k. tt)

  module _ {n : ℕ} (q : Passed (45 ∷ []) t (Ok c) (Err n)) where
    unsigned_lem : {r : Reached} {P : ℕ → Type 0} {Q : Signed → Type 0} → Found natural P t (Ok c) r
        → ((n : ℕ) → P n → Q (plus n)) → Found signed_number.parse Q t (Ok c) r
    unsigned_lem x h =
        found_same signed_number.parse (signed_plus (drop c.at t) _ (passed_stop q)) (found_map plus h x)

    pub signed_number_read : {r : Cursor} {v : ℕ} {b : Option ℕ} → NumberRead t c (Ok (r, v)) → b ≡ ttl_bits (plus v)
        → SignedRead t c (Ok (r, b))
    signed_number_read y e = record { found = unsigned_lem y.found λ n k. e ∙ plus_kept n k; keeps = y.keeps }

    pub number_stop : {m : ℕ} → NumberRead t c (Err m) → SignedRead t c (Err m)
    number_stop y = value_stop (unsigned_lem {Q = λ s. Unit {0}} y.found λ n k. tt)

-- for `signed`
pub ruleset signed_steps = (signed_negative, negative_stop, signed_number_read, number_stop)
