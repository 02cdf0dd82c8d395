-- The values of option members: what each reader shows.
use Rattle.std.specs.Prelude.{◌≡◌, Bool, true, false, not, cond, ◌&&◌, List, [], ◌∷◌, ◌++◌, ℕ, min, ◌+◌, ◌-◌, ◌/◌, ◌%◌, ◌^◌, ◌≤◌, ◌<◌, T, leb, ltb, eqb, length, replicate, Ok, Err}
use Rattle.std.specs.Int.{bytes_high_first}
use Rattle.std.proofs.Math.Path.{refl}
use Rattle.std.proofs.Common.{sym, ◌∙◌, ap, ap₂, subst, ⊎_elim, arith, eq-eqb, ne_eqb, ltb→lt}
use Rattle.std.proofs.Math.Bool.{and-true, and_assoc}
use Rattle.std.proofs.Math.Option.{Option, none}
use Prim.Native.String.{String}
use Rattle.std.proofs.lemmas.Bool.{lt-leb, cases_lt}
use Rattle.std.proofs.lemmas.List.{length-replicate, replicate-append-replicate}
use Rattle.octets.specs.Lists.{ascii, all, each, none?, u8?, paired, Octets}
use Rattle.octets.specs.Bits.{and_left, and_right}
use Rattle.octets.specs.Fields.{be32}
use Rattle.octets.specs.Hexadecimal.{hex_text, hex, hex_text_avoids}
use Rattle.octets.specs.Decimal.{decimal, natural, number, number_avoids}
use Rattle.octets.specs.Parsed.{Parsed, parsed, and_then, strip}
use Rattle.octets.specs.Codec.{Avoids, fronts}
use Rattle.octets.specs.Overlay.{Wrote, nothing, then}
use Rattle.options.specs.Options.{Syntax, hex_object, octet_list, expiry, hex_list, word, padding, word_list, extended_error}
use Rattle.options.specs.Options.{unlisted, syntax_of, zero?}
use Rattle.strict.specs.Members.{octets_of, value?, optional, padding_octets, cookie?, padding?, text?}
use Rattle.strict.specs.Parser.{value, expiry_number}
use Rattle.strict.specs.Spelt.{string}
use Rattle.hex_or_octets.specs.declared.HexDigits.{HexDigits}
use Rattle.hex_or_octets.specs.Digits.{paired_half}
use Rattle.parse_tokens.specs.declared.Cursor.{Cursor}
use Rattle.parse_tokens.specs.Cursor.{Reached, Safe, between_as, between_then, keeps_same, keeps_then}
use Rattle.parse_tokens.specs.Cursor.{Advanced, stop_keeps, reads_stop, Passed, passed_stays}
use Rattle.parse_tokens.specs.Step.{Found, found_stays, found_as, found_none, found_lit, found_behind, found_pair}
use Rattle.parse_tokens.specs.Step.{found_at, Put, put_from, put_to, put_as, put_nothing, put_judged, put_last, all_last}
use Rattle.parse_tokens.specs.Step.{Puts, Step, step_lit, step_behind, step_pair, Held, held_room, Judged}
use Rattle.parse_tokens.specs.Leaf.{found_lits}
use Rattle.parse_tokens.specs.Choice.{furthest, maybe_parse, maybe_none, maybe_some}
use Rattle.parse_tokens.specs.Number.{capped, NumberRead}
use Rattle.parse_tokens.specs.Hex.{HexRead}
use Rattle.parse_tokens.specs.Fields.{fits?, number_octets, FieldPut, Done, done_past, done_held, found_done, number_done}
use Rattle.parse_tokens.specs.Place.{At}
use Rattle.parse_tokens.specs.Items.{comma_of, part_of, item_of, Items, items_start, items_end, items_stop, items_less}
use Rattle.parse_tokens.specs.Items.{items_more}
use Rattle.to_wire.specs.String.{StringRead}

-- the value of a syntax
abbrev pub ValueStep : Syntax → List ℕ → Reached → List ℕ → Reached → List ℕ → Type 0
ValueStep syntax t c b r b' = Step (value? syntax) (octets_of syntax) (value syntax).parse t c b r b'

-- ---- octets in hexadecimal
-- the octets of these digits were written, unless they go past the limit
abbrev pub HexPut : List ℕ → Cursor → List ℕ → Cursor → List ℕ → Type 0
HexPut h = Done (λ l. l ≡ paired h) (λ l. true) (λ l. l)

module _ (h : List ℕ) {c r : Cursor} {size : ℕ} (e : size ≡ length (paired h)) (k : Held size c r) where
  pub hex_past : {b : List ℕ} → not r.bounded ≡ true → HexPut h c b r b
  hex_past z = done_past k z λ l x. rw (x, e)

  pub hex_put : {n : ℕ} {b b' : List ℕ} → Wrote b c.to (paired h) b' n → HexPut h c b r b'
  hex_put {n} {b} {b'} w = done_held k λ l x.
      (ap length x ∙ sym e, subst (λ z. Wrote b c.to z b' n) (sym x) w)

pub hex_room : (h : List ℕ) {c r : Cursor} {size : ℕ} → size ≡ length (paired h) → Held size c r
    → not r.bounded ≡ false → c.to + length (paired h) < 2 ^ 40
hex_room h e k z = omega (arith, e, held_room k z)

-- for `put_hex`
pub ruleset hex_steps = (hex_room, hex_past, hex_put)

-- ---- a number of n octets
module _ (n : ℕ) {t : List ℕ} {c : Cursor} {b : List ℕ} where
  pub numeral_read : {d r : Cursor} {v : ℕ} {b' : List ℕ} → n ≤ 4 → NumberRead t c (Ok (d, v))
      → FieldPut (number_octets n v) d b r b'
      → Step (fits? n) (bytes_high_first n) natural t (Ok c) b (Ok r) b'
  numeral_read h x w = found_done x.found x.keeps (number_done n h x.keeps.moves.within.0.room w)

  pub numeral_stop : {m : ℕ} → NumberRead t c (Err m)
      → Step (fits? n) (bytes_high_first n) natural t (Ok c) b (Err m) b
  numeral_stop x = found_none x.found

-- for `numeral`
pub ruleset numeral_steps = (numeral_read, numeral_stop)

-- ---- numbers with commas between, and the bracket after them
abbrev pub numerals_parse : List ℕ → Parsed (List ℕ)
numerals_parse = part_of number 93 true

number_apart : Avoids (λ (n : ℕ). Unit {0}) (λ n. 44 ∷ decimal n) 93
number_apart a r s h e = fronts tt e

-- the numbers found from c to d
pub record Numerals (n : ℕ) (t : List ℕ) (c : Cursor) (b : List ℕ) (d : Cursor) (first : Bool)
    (out : List ℕ) : Type 0 where
  pub items : Items number 93 (Put (all (fits? n)) (each (bytes_high_first n)) c b d out) t c true d first
  pub long : length out ≡ length b

abbrev NumeralsStep : ℕ → List ℕ → Reached → List ℕ → Reached → List ℕ → Type 0
NumeralsStep n t c b r b' = Step (all (fits? n)) (each (bytes_high_first n)) numerals_parse t c b r b'

module _ {n : ℕ} {t : List ℕ} {c : Cursor} {b : List ℕ} where
  pub numerals_start : Safe t c → Numerals n t c b c true b
  unfolding each
  numerals_start h = record {
    items = items_start number 93 (number_avoids 93 tt) number_apart t h
        (put_nothing b (keeps_same h) refl refl);
    long = refl;
  }

  module _ {d : Cursor} {first : Bool} {out : List ℕ} (w : Numerals n t c b d first out) where
    pub numerals_end : {r : Cursor} → At t d.at 93 → Advanced d (d.at + 1) r → NumeralsStep n t (Ok c) b (Ok r) out
    numerals_end k s = items_end number 93 (number_avoids 93 tt) number_apart t w.items k s
        λ z l h. record { holds = put_to h z }

    module _ {e r : Reached} {out' : List ℕ} (q : Passed (comma_of first) t (Ok d) e)
        (s : Step (fits? n) (bytes_high_first n) natural t e out r out') where
      one_more : Step (fits? n) (bytes_high_first n) (item_of number 93 first) t (Ok d) out r out'
      one_more = step_lit q s

    pub numerals_stop : {e : Reached} {m : ℕ} {out' : List ℕ} → (At t d.at 93 → ⊥) → Passed (comma_of first) t (Ok d) e
        → Step (fits? n) (bytes_high_first n) natural t e out (Err m) out' → NumeralsStep n t (Ok c) b (Err m) out'
    numerals_stop k q s = items_stop number 93 (number_avoids 93 tt) number_apart t w.items k (one_more q s)

    module _ {e r : Cursor} {out' : List ℕ} (q : Passed (comma_of first) t (Ok d) (Ok e))
        (s : Step (fits? n) (bytes_high_first n) natural t (Ok e) out (Ok r) out') where
      pub numerals_less : length t - r.at < length t - d.at
      numerals_less = items_less number 93 (number_avoids 93 tt) number_apart t w.items (one_more q s)

      pub numerals_more : length out' ≡ length out → Numerals n t c b r false out'
      numerals_more z = record {
        items = items_more number 93 (number_avoids 93 tt) number_apart t w.items (one_more q s)
            λ l a p q. put_last l a (all_last (fits? n) l a) p q.holds;
        long = z ∙ w.long;
      }

-- for `numerals`
pub ruleset numerals_steps = (numerals_start, numerals_end, numerals_stop, numerals_less, numerals_more, found_stays)

-- ---- a list of numbers
abbrev pub list_parse : List ℕ → Parsed (List ℕ)
list_parse w = and_then (strip (ascii "[") w) (λ u r. numerals_parse r)

abbrev ListStep : ℕ → List ℕ → Reached → List ℕ → Reached → List ℕ → Type 0
ListStep n t c b r b' = Step (all (fits? n)) (each (bytes_high_first n)) list_parse t c b r b'

module _ (n : ℕ) {t : List ℕ} {c : Cursor} {b : List ℕ} where
  pub list_opened : {o : Cursor} {r : Reached} {b' : List ℕ} → Passed (ascii "[") t (Ok c) (Ok o)
      → NumeralsStep n t (Ok o) b r b' → ListStep n t (Ok c) b r b'
  list_opened q y = step_lit q y

  pub list_none : {m : ℕ} → Passed (ascii "[") t (Ok c) (Err m) → ListStep n t (Ok c) b (Err m) b
  list_none q = found_lit q found_stays

-- for `list`
pub ruleset list_steps = (list_opened, list_none)

-- octets that matter only where all is meant
put_meant : {A : Type 0} {ok : A → Bool} {wire wire' : A → List ℕ} {c r : Cursor} {b b' : List ℕ} {a : A}
    → (T (ok a) → wire' a ≡ wire a) → Put ok wire c b r b' a → Put ok wire' c b r b' a
put_meant {ok = ok} {c = c} {a = a} e p = record {
  meaningful = p.meaningful;
  bounded = λ k. rw (e (and_right c.meaningful (ok a) (subst T p.meaningful k))) (p.bounded k);
  wrote = λ k l. rw (e (and_right c.meaningful (ok a) (subst T p.meaningful k))) (p.wrote k l);
}

octets_each : (l : List ℕ) → T (all u8? l) → l ≡ each (bytes_high_first 1) l
unfolding each
octets_each [] h = refl
octets_each (x ∷ l) h =
    let k = ltb→lt x 256 (and_left (u8? x) (all u8? l) h) in
    let e : x ≡ x % 256 = omega arith in
    ap₂ (λ (y : ℕ) (m : List ℕ). y ∷ m) e (octets_each l (and_right (u8? x) (all u8? l) h))

-- ---- NSID
module _ {t : List ℕ} {c : Reached} {o d s : Cursor} {z : Reached} {h : HexDigits} {b b' : List ℕ} where
  pub hex_object_value : Passed (ascii "{\"HEX\":") t c (Ok o) → HexRead t o (Ok (d, h)) → HexPut h.digits.now d b s b'
      → Passed (ascii "}") t (Ok s) z → ValueStep hex_object t c b z b'
  unfolding value value? octets_of
  hex_object_value q x d e = step_lit q (step_behind (found_done x.found x.keeps d) e)

pub hex_object_stop : {t : List ℕ} {c o : Cursor} {m : ℕ} {b : List ℕ} → Passed (ascii "{\"HEX\":") t (Ok c) (Ok o)
    → HexRead t o (Err m) → ValueStep hex_object t (Ok c) b (Err m) b
unfolding value value? octets_of
hex_object_stop q x = found_none (found_lit q (found_behind {l = ascii "}"} x.found passed_stays))

pub hex_object_none : {t : List ℕ} {c : Cursor} {m : ℕ} {b : List ℕ} → Passed (ascii "{\"HEX\":") t (Ok c) (Err m)
    → ValueStep hex_object t (Ok c) b (Err m) b
unfolding value
hex_object_none q = found_lit q found_stays

-- for `hex_object`
pub ruleset hex_object_steps = (hex_object_value, hex_object_stop, hex_object_none)

-- ---- EXPIRE
four_octets : (m : ℕ) → be32 m ≡ bytes_high_first 4 m
four_octets m =
    let w : m / 65536 / 256 % 256 ≡ m / 256 ^ 3 % 256 = omega arith in
    let x : m / 65536 % 256 ≡ m / 256 ^ 2 % 256 = omega arith in
    let y : m % 65536 / 256 % 256 ≡ m / 256 ^ 1 % 256 = omega arith in
    let z : m % 65536 % 256 ≡ m % 256 = omega arith in
    rw (w, x, y, z)

module _ {t : List ℕ} {c : Cursor} {b : List ℕ} where
  pub expiry_none : {r : Cursor} → Passed (ascii "\"NONE\"") t (Ok c) (Ok r) → ValueStep expiry t (Ok c) b (Ok r) b
  unfolding value value? octets_of expiry_number
  expiry_none q = maybe_none natural q (record { holds = put_nothing b q.keeps refl refl })

  pub expiry_some : {m : ℕ} {r s : Reached} {b' : List ℕ} → Passed (ascii "\"NONE\"") t (Ok c) (Err m)
      → Step (fits? 4) (bytes_high_first 4) natural t (Ok c) b r b' → s ≡ furthest r m → ValueStep expiry t (Ok c) b s b'
  unfolding value value? octets_of expiry_number
  expiry_some {b' = b'} q y e = rw e (maybe_some natural (λ z. Puts (value? expiry) (octets_of expiry) (Ok c) b z b') q y
      λ n h. between_as h λ c r z. put_as refl (four_octets n) z)

-- for `expiry`
pub ruleset expiry_steps = (expiry_none, expiry_some)

-- ---- an object of a number and an end: its brace, or one more member and the brace
-- the member and the brace
abbrev pub last_parse : {A : Type 0} → String → (List ℕ → Parsed A) → List ℕ → Parsed A
last_parse l p w = and_then (strip (ascii ",") w) λ u w. and_then (strip (ascii l) w) λ u w. and_then
    (p w) λ a w. and_then (strip (ascii "}") w) λ u r. parsed a r

abbrev pub end_parse : {A : Type 0} → String → (List ℕ → Parsed A) → List ℕ → Parsed (Option A)
end_parse l p = maybe_parse (ascii "}") (last_parse l p)

-- EDE: the text is not empty
abbrev pub error_last : List ℕ → Parsed (List ℕ)
error_last = last_parse "\"TEXT\":" string.parse

abbrev pub error_end : List ℕ → Parsed (Option (List ℕ))
error_end = end_parse "\"TEXT\":" string.parse

abbrev pub ErrorText : List ℕ → Reached → List ℕ → Reached → List ℕ → Type 0
ErrorText t c b r b' = Step (λ l. not (none? l)) (λ l. l) error_last t c b r b'

module _ {t : List ℕ} {c : Cursor} {b : List ℕ} where
  module _ {o : Cursor} (q : Passed (ascii ",\"TEXT\":") t (Ok c) (Ok o)) where
    pub error_text_read : {s j : Cursor} {z : Reached} {b' : List ℕ} → StringRead t (Ok o) b (Ok s) b'
        → Judged (not (eqb s.at (o.at + 2))) s j → Passed (ascii "}") t (Ok j) z → ErrorText t (Ok c) b z b'
    error_text_read {s} {j} {z} {b'} x k e =
        found_lits (ascii ",") (ascii "\"TEXT\":") q
        (found_behind (found_at x k.at (omega (arith, k.to, x.moves.within.0.room)) λ l h.
        between_then {c = Ok c} {r = Ok j} {s = z} (record {
          holds = put_from q.keeps.alike.holds (put_judged h.holds.0 k (ap not h.holds.1));
        }) e.keeps.alike λ c r s p a. put_to p a) e)

    pub error_text_stop : {m : ℕ} {b' : List ℕ} → StringRead t (Ok o) b (Err m) b' → ErrorText t (Ok c) b (Err m) b'
    error_text_stop x = found_lits (ascii ",") (ascii "\"TEXT\":") q (found_behind {l = ascii "}"} (found_none x) passed_stays)

  pub error_text_none : {m : ℕ} → Passed (ascii ",\"TEXT\":") t (Ok c) (Err m) → ErrorText t (Ok c) b (Err m) b
  error_text_none q = found_lits (ascii ",") (ascii "\"TEXT\":") q found_stays

  pub error_none : {r : Cursor} → Passed (ascii "}") t (Ok c) (Ok r) → Step text? optional error_end t (Ok c) b (Ok r) b
  error_none q = maybe_none error_last q (record { holds = put_nothing b q.keeps refl refl })

  pub error_some : {m : ℕ} {r s : Reached} {b' : List ℕ} → Passed (ascii "}") t (Ok c) (Err m)
      → ErrorText t (Ok c) b r b' → s ≡ furthest r m → Step text? optional error_end t (Ok c) b s b'
  error_some {b' = b'} q y e = rw e (maybe_some error_last (λ z. Puts text? optional (Ok c) b z b') q y
      λ l h. between_as h λ c r z. put_as refl refl z)

-- for `error_text` and `error_end`
pub ruleset error_text_steps = (error_text_read, error_text_stop, error_text_none)

pub ruleset error_end_steps = (error_none, error_some)

module _ {t : List ℕ} {c : Cursor} {b : List ℕ} where
  module _ {o : Cursor} (q : Passed (ascii "{\"CODE\":") t (Ok c) (Ok o)) where
    pub extended_error_value : {s : Cursor} {z : Reached} {b₁ b₂ : List ℕ}
        → Step (fits? 2) (bytes_high_first 2) natural t (Ok o) b (Ok s) b₁
        → Step text? optional error_end t (Ok s) b₁ z b₂ → ValueStep extended_error t (Ok c) b z b₂
    unfolding value value? octets_of
    extended_error_value x y = step_lit q (step_pair x y)

    pub extended_error_stop : {m : ℕ} {b' : List ℕ} → Step (fits? 2) (bytes_high_first 2) natural t (Ok o) b (Err m) b'
        → ValueStep extended_error t (Ok c) b (Err m) b'
    unfolding value
    extended_error_stop x =
        found_none (found_lit q (found_pair x (found_stays {P = λ (u : Option (List ℕ)). Unit {0}})))

  pub extended_error_none : {m : ℕ} → Passed (ascii "{\"CODE\":") t (Ok c) (Err m)
      → ValueStep extended_error t (Ok c) b (Err m) b
  unfolding value
  extended_error_none q = found_lit q found_stays

-- for `extended_error`
pub ruleset extended_error_steps = (extended_error_value, extended_error_stop, extended_error_none)

-- ---- PADDING
-- i of the zero octets were written
pub zeros_start : (b : List ℕ) (at : ℕ) → Wrote b at (replicate 0 0) b (at + 0)
zeros_start b at = record { place = refl; text = (nothing b at).text }

pub zeros_more : (i : ℕ) {b b₁ b₂ : List ℕ} {at s : ℕ} → Wrote b at (replicate i 0) b₁ (at + i)
    → Wrote b₁ (at + i) (0 ∷ []) b₂ s → Wrote b at (replicate (i + 1) 0) b₂ (at + (i + 1))
zeros_more i {b} {b₂ = b₂} {at = at} {s = s} p q = record {
  place = rw (length-replicate {A = ℕ} (i + 1) 0);
  text = (subst (λ (z : List ℕ). Wrote b at z b₂ s) (replicate-append-replicate {A = ℕ} i 1 0) (then p q)).text;
}

abbrev pub Zeros : ℕ → Cursor → List ℕ → Cursor → List ℕ → Type 0
Zeros n = Done (λ k. n ≡ capped k) (λ k. true) (λ k. replicate k 0)

pub zeros_room : {n : ℕ} {c r : Cursor} → Held n c r → not r.bounded ≡ false → c.to + n < 2 ^ 40
zeros_room h z = omega (arith, held_room h z)

module _ {n : ℕ} {c r : Cursor} {b : List ℕ} (h : Held n c r) where
  pub zeros_past : not r.bounded ≡ true → Zeros n c b r b
  zeros_past z = done_past h z λ k e. rw (length-replicate {A = ℕ} k 0) (⊎_elim
      (λ i. lt-leb (c.to + k) 65535 (omega arith) ∙ sym (lt-leb (c.to + n) 65535 (omega (arith, e))))
      (λ i. let m : k ≡ n = omega (arith, e) in rw m)
      (cases_lt 65535 k))

  pub zeros_put : {b' : List ℕ} {end : ℕ} → not r.bounded ≡ false → Wrote b c.to (replicate n 0) b' end
      → Zeros n c b r b'
  zeros_put {b'} {end} z w = done_held h λ k e. let m : n ≡ k = omega (arith, e, held_room h z) in
      (length-replicate {A = ℕ} k 0 ∙ sym m, subst (λ (i : ℕ). Wrote b c.to (replicate i 0) b' end) m w)

-- for `zeros`
pub ruleset zeros_steps = (zeros_room, zeros_past, zeros_put)

-- the octets are as many as the number says, and not all zero
pub record PaddingFits (h : List ℕ) (n : ℕ) (ok : Bool) : Type 0 where
  pub fits : (k : ℕ) → n ≡ capped k → (eqb (length (paired h)) k && not (all zero? (paired h))) ≡ ok

module _ {h : List ℕ} {n : ℕ} where
  pub fits_other : length h < 2 ^ 63 → (n ≡ length (paired h) → ⊥) → PaddingFits h n false
  fits_other s d = record {
    fits = λ k e. rw (ne_eqb (length (paired h)) k λ y. d (omega (arith, e, y, paired_half h)));
  }

  pub fits_same : length h < 2 ^ 63 → n ≡ length (paired h) → PaddingFits h n (not (all zero? (paired h)))
  fits_same s d = record {
    fits = λ k e. rw (eq-eqb (length (paired h)) k (omega (arith, d, e, paired_half h)));
  }

abbrev pub padding_last : List ℕ → Parsed (List ℕ)
padding_last = last_parse "\"HEX\":" hex.parse

abbrev pub padding_end : List ℕ → Parsed (Option (List ℕ))
padding_end = end_parse "\"HEX\":" hex.parse

-- of any number that was read as n
abbrev pub PaddingHex : ℕ → List ℕ → Reached → List ℕ → Reached → List ℕ → Type 0
PaddingHex n t c b r b' = Found padding_last (λ l. (k : ℕ) → n ≡ capped k
    → Puts (λ l. eqb (length l) k && not (all zero? l)) (λ l. l) c b r b' l) t c r

abbrev pub PaddingEnd : ℕ → List ℕ → Reached → List ℕ → Reached → List ℕ → Type 0
PaddingEnd n t c b r b' = Found padding_end (λ o. (k : ℕ) → n ≡ capped k
    → Puts (padding? k) (padding_octets k) c b r b' o) t c r

module _ {n : ℕ} {t : List ℕ} {c : Cursor} {b : List ℕ} where
  module _ {o : Cursor} (q : Passed (ascii ",\"HEX\":") t (Ok c) (Ok o)) where
    pub padding_hex_read : {d s j : Cursor} {z : Reached} {h : HexDigits} {ok : Bool} {b' : List ℕ}
        → HexRead t o (Ok (d, h)) → HexPut h.digits.now d b s b' → PaddingFits h.digits.now n ok → Judged ok s j
        → Passed (ascii "}") t (Ok j) z → PaddingHex n t (Ok c) b z b'
    padding_hex_read {d} {s} {j} {z} {h} {ok} {b'} x p f k e =
        found_lits (ascii ",") (ascii "\"HEX\":") q
        (found_behind (found_at x.found (k.at ∙ p.at) (omega (arith, k.to, p.room)) λ l y m v.
        between_then {c = Ok c} {r = Ok j} {s = z} (record {
          holds = put_from (keeps_then q.keeps x.keeps).alike.holds (put_judged (p.put l y) k (rw y (f.fits m v)));
        }) e.keeps.alike λ c r s p a. put_to p a) e)

    pub padding_hex_stop : {m : ℕ} → HexRead t o (Err m) → PaddingHex n t (Ok c) b (Err m) b
    padding_hex_stop x =
        found_lits (ascii ",") (ascii "\"HEX\":") q (found_behind {l = ascii "}"} (found_none x.found) passed_stays)

  pub padding_hex_none : {m : ℕ} → Passed (ascii ",\"HEX\":") t (Ok c) (Err m) → PaddingHex n t (Ok c) b (Err m) b
  padding_hex_none q = found_lits (ascii ",") (ascii "\"HEX\":") q found_stays

  pub padding_zeros : {r s : Cursor} {b' : List ℕ} → Passed (ascii "}") t (Ok c) (Ok r) → Zeros n r b s b'
      → PaddingEnd n t (Ok c) b (Ok s) b'
  padding_zeros q d =
      found_at (maybe_none padding_last {R = λ o. o ≡ none} q refl) d.at d.room
      λ o e m v. record { holds = put_as (rw e) (rw e) (put_from q.keeps.alike.holds (d.put m v)) }

  pub padding_some : {m : ℕ} {r s : Reached} {b' : List ℕ} → Passed (ascii "}") t (Ok c) (Err m)
      → PaddingHex n t (Ok c) b r b' → s ≡ furthest r m → PaddingEnd n t (Ok c) b s b'
  padding_some {b' = b'} q y e = rw e (maybe_some padding_last (λ z o. (k : ℕ) → n ≡ capped k
      → Puts (padding? k) (padding_octets k) (Ok c) b z b' o) q y
      λ l h m v. between_as (h m v) λ c r z. put_as refl refl z)

-- for `padding_hex` and `padding_end`
pub ruleset padding_hex_steps = (padding_hex_read, padding_hex_stop, padding_hex_none)

pub ruleset padding_end_steps = (padding_zeros, padding_some)

module _ {t : List ℕ} {c : Cursor} {b : List ℕ} where
  pub padding_value : {o d : Cursor} {v : ℕ} {z : Reached} {b' : List ℕ} → Passed (ascii "{\"LENGTH\":") t (Ok c) (Ok o)
      → NumberRead t o (Ok (d, v)) → PaddingEnd v t (Ok d) b z b' → ValueStep padding t (Ok c) b z b'
  unfolding value value? octets_of
  padding_value {d = d} {z = z} q x y =
      found_lit q (found_as (found_pair x.found y) λ u h.
      between_then {c = Ok c} {r = Ok d} {s = z} (keeps_then q.keeps x.keeps).alike (h.1 u.0 h.0)
      λ c r s a p. put_from a (put_as refl refl p))

  pub padding_stop : {o : Cursor} {m : ℕ} → Passed (ascii "{\"LENGTH\":") t (Ok c) (Ok o)
      → NumberRead t o (Err m) → ValueStep padding t (Ok c) b (Err m) b
  unfolding value
  padding_stop q x = found_none (found_lit q (found_pair x.found (found_stays {P = λ (u : Option (List ℕ)). Unit {0}})))

  pub padding_none : {m : ℕ} → Passed (ascii "{\"LENGTH\":") t (Ok c) (Err m) → ValueStep padding t (Ok c) b (Err m) b
  unfolding value
  padding_none q = found_lit q found_stays

-- for `padding`
pub ruleset padding_steps = (padding_value, padding_stop, padding_none)

-- ---- COOKIE
-- the lengths that the strings may have: the first 8, the second 8 to 32, and no third
abbrev pub part? : ℕ → ℕ → Bool
part? i n = cond (eqb i 0) (eqb n 8) (cond (eqb i 1) (leb 8 n && leb n 32) false)

-- all from the second on count alike
abbrev pub next_part : ℕ → ℕ
next_part i = min (i + 1) 2

abbrev pub parts? : ℕ → List (List ℕ) → Bool
parts? i [] = true
parts? i (h ∷ l) = part? i (length h) && parts? (next_part i) l

abbrev pub part_after : ℕ → List (List ℕ) → ℕ
part_after i [] = i
part_after i (h ∷ l) = part_after (next_part i) l

parts_last : (i : ℕ) (l : List (List ℕ)) (a : List ℕ)
    → parts? i (l ++ (a ∷ [])) ≡ (parts? i l && part? (part_after i l) (length a))
parts_last i [] a = and-true (part? i (length a))
parts_last i (h ∷ l) a =
    rw (parts_last (next_part i) l a)
    (sym (and_assoc (part? i (length h)) (parts? (next_part i) l) (part? (part_after (next_part i) l) (length a))))

after_last : (i : ℕ) (l : List (List ℕ)) (a : List ℕ) → part_after i (l ++ (a ∷ [])) ≡ next_part (part_after i l)
after_last i [] a = refl
after_last i (h ∷ l) a = after_last (next_part i) l a

cookie_parts : (l : List (List ℕ)) → cookie? l ≡ (parts? 0 l && ltb 0 (part_after 0 l))
cookie_parts [] = refl
cookie_parts (a ∷ []) = sym (and-true _ ∙ and-true _)
cookie_parts (a ∷ h ∷ []) = go (eqb (length a) 8) (leb 8 (length h)) (leb (length h) 32)
  where
    go : (x y z : Bool) → ((x && y) && z) ≡ ((x && ((y && z) && true)) && true)
    go true true true = refl
    go true true false = refl
    go true false z = refl
    go false y z = refl
cookie_parts (a ∷ h ∷ x ∷ l) = go (eqb (length a) 8) (leb 8 (length h) && leb (length h) 32)
  where
    go : (x y : Bool) → false ≡ ((x && (y && false)) && ltb 0 (part_after 2 l))
    go true true = refl
    go true false = refl
    go false y = refl

abbrev pub cookie_parse : List ℕ → Parsed (List (List ℕ))
cookie_parse = part_of hex 93 true

abbrev pub CookieStep : ℕ → List ℕ → Reached → List ℕ → Reached → List ℕ → Type 0
CookieStep i t c b r b' = Step (λ l. part? i (length l)) (λ l. l) hex.parse t c b r b'

module _ (i : ℕ) {t : List ℕ} {c : Cursor} {b : List ℕ} where
  pub cookie_read : {d s j : Cursor} {h : HexDigits} {size : ℕ} {ok : Bool} {b' : List ℕ} → HexRead t c (Ok (d, h))
      → HexPut h.digits.now d b s b' → size ≡ length (paired h.digits.now) → ok ≡ part? i size → Judged ok s j
      → CookieStep i t (Ok c) b (Ok j) b'
  cookie_read x p e f k =
      found_at x.found (k.at ∙ p.at) (omega (arith, k.to, p.room)) λ l y. record {
        holds = put_from x.keeps.alike.holds (put_judged (p.put l y) k (rw (y, f, e)));
      }

  pub cookie_stop : {m : ℕ} → HexRead t c (Err m) → CookieStep i t (Ok c) b (Err m) b
  cookie_stop x = found_none x.found

-- for `cookie_string`
pub ruleset cookie_steps = (cookie_read, cookie_stop)

-- the strings found from c to d
pub record Cookies (t : List ℕ) (c : Cursor) (b : List ℕ) (d : Cursor) (first : Bool) (i : ℕ)
    (out : List ℕ) : Type 0 where
  pub items : Items hex 93 (λ l. Put (parts? 0) (each (λ h. h)) c b d out l
      × (i ≡ part_after 0 l)) t c true d first
  pub few : i ≤ 2
  pub long : length out ≡ length b

cookie_apart : Avoids Octets (λ l. 44 ∷ hex_text l) 93
cookie_apart a r s h e = fronts tt e

abbrev CookiesStep : List ℕ → Reached → List ℕ → Reached → List ℕ → Type 0
CookiesStep t c b r b' = Step cookie? (each (λ h. h)) cookie_parse t c b r b'

module _ {t : List ℕ} {c : Cursor} {b : List ℕ} where
  pub cookies_start : Safe t c → Cookies t c b c true 0 b
  unfolding each
  cookies_start h = record {
    items = items_start hex 93 (hex_text_avoids 93 tt) cookie_apart t h
        (put_nothing b (keeps_same h) refl refl, refl);
    few = omega arith;
    long = refl;
  }

  module _ {d : Cursor} {first : Bool} {i : ℕ} {out : List ℕ} (w : Cookies t c b d first i out) where
    pub cookies_end : {r j : Cursor} → At t d.at 93 → Advanced d (d.at + 1) r → Judged (ltb 0 i) r j
        → CookiesStep t (Ok c) b (Ok j) out
    cookies_end {r} {j} k s q =
        let y = items_end hex 93 (hex_text_avoids 93 tt) cookie_apart t
        w.items {R = λ l. Put (parts? 0) (each (λ h. h)) c b r out l × (i ≡ part_after 0 l)} k s
        (λ z l h. (put_to h.0 z, h.1)) in
        found_at y q.at (omega (arith, q.to, y.moves.within.0.room)) λ l h. record {
          holds = put_judged h.0 q (cookie_parts l ∙ ap (λ (n : ℕ). parts? 0 l && ltb 0 n) (sym h.1));
        }

    one_cookie : {e r : Reached} {out' : List ℕ} → Passed (comma_of first) t (Ok d) e → CookieStep i t e out r out'
        → Step (λ l. part? i (length l)) (λ l. l) (item_of hex 93 first) t (Ok d) out r out'
    one_cookie q s = step_lit q s

    pub cookies_stop : {e : Reached} {m : ℕ} {out' : List ℕ} → (At t d.at 93 → ⊥) → Passed (comma_of first) t (Ok d) e
        → CookieStep i t e out (Err m) out' → CookiesStep t (Ok c) b (Err m) out'
    cookies_stop k q s = items_stop hex 93 (hex_text_avoids 93 tt) cookie_apart t w.items k (one_cookie q s)

    module _ {e r : Cursor} {out' : List ℕ} (q : Passed (comma_of first) t (Ok d) (Ok e))
        (s : CookieStep i t (Ok e) out (Ok r) out') where
      pub cookies_less : length t - r.at < length t - d.at
      cookies_less = items_less hex 93 (hex_text_avoids 93 tt) cookie_apart t w.items (one_cookie q s)

      pub cookies_more : {n : ℕ} → length out' ≡ length out → n ≡ next_part i → Cookies t c b r false n out'
      cookies_more {n} z y = record {
        items = items_more hex 93 (hex_text_avoids 93 tt) cookie_apart t w.items (one_cookie q s)
            λ l a p q. (
              put_last l a (parts_last 0 l a ∙ ap (λ (n : ℕ). parts? 0 l && part? n (length a)) (sym p.1))
                  p.0 q.holds,
              y ∙ ap next_part p.1 ∙ sym (after_last 0 l a),
            );
        few = omega (arith, y);
        long = z ∙ w.long;
      }

-- for `cookie_strings`
pub ruleset cookies_steps = (cookies_start, cookies_end, cookies_stop, cookies_less, cookies_more, found_stays)

module _ {t : List ℕ} {c : Cursor} {b : List ℕ} where
  pub cookie_value : {o : Cursor} {r : Reached} {b' : List ℕ} → Passed (ascii "[") t (Ok c) (Ok o)
      → CookiesStep t (Ok o) b r b' → ValueStep hex_list t (Ok c) b r b'
  unfolding value value? octets_of
  cookie_value q y = step_lit q y

  pub cookie_none : {m : ℕ} → Passed (ascii "[") t (Ok c) (Err m) → ValueStep hex_list t (Ok c) b (Err m) b
  unfolding value
  cookie_none q = found_lit q found_stays

-- for `cookie`
pub ruleset cookie_value_steps = (cookie_value, cookie_none)

-- ---- a value by its option's code
pub at_syntax : (code : ℕ) {syntax : Syntax} {t : List ℕ} {c r : Reached} {b b' : List ℕ} → syntax ≡ syntax_of code
    → ValueStep syntax t c b r b' → ValueStep (syntax_of code) t c b r b'
at_syntax code {t = t} {c = c} {r = r} {b = b} {b' = b'} e y = subst (λ (f : Syntax). ValueStep f t c b r b') e y

pub no_syntax : (code : ℕ) {t : List ℕ} {c : Cursor} {b : List ℕ} → unlisted ≡ syntax_of code → Safe t c
    → ValueStep (syntax_of code) t (Ok c) b (Err c.at) b
unfolding value
no_syntax code e h = at_syntax code e record { reads = reads_stop refl; moves = (stop_keeps (omega arith) h.inside).moves }

module _ (code : ℕ) {t : List ℕ} {c r : Reached} {b b' : List ℕ} where
  -- numbers of one octet each: DAU, DHU, N3U; of two: KEYTAG
  pub octet_list_value : octet_list ≡ syntax_of code → ListStep 1 t c b r b' → ValueStep (syntax_of code) t c b r b'
  unfolding value value? octets_of
  octet_list_value e y = at_syntax code {syntax = octet_list} e
      (found_as y λ l h. between_as h λ c r z. put_meant (octets_each l) z)

  pub word_list_value : word_list ≡ syntax_of code → ListStep 2 t c b r b' → ValueStep (syntax_of code) t c b r b'
  unfolding value value? octets_of
  word_list_value e y = at_syntax code {syntax = word_list} e y

  -- one number: KEEPALIVE
  pub word_value : word ≡ syntax_of code → Step (fits? 2) (bytes_high_first 2) natural t c b r b'
      → ValueStep (syntax_of code) t c b r b'
  unfolding value value? octets_of
  word_value e y = at_syntax code {syntax = word} e y

-- for `option_value`
pub ruleset option_value_steps = (at_syntax, no_syntax, octet_list_value, word_list_value, word_value)
