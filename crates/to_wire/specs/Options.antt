-- The members of the EDNS object: what each reader shows.
use Rattle.std.specs.Prelude.{◌≡◌, Bool, true, false, not, cond, ◌&&◌, ℕ, ◌+◌, ◌-◌, ◌%◌, ◌≤◌, ◌<◌, T, max, leb, ltb, eqb, length, drop, Result, Ok, Err}
use Rattle.std.proofs.Math.Path.{refl}
use Rattle.std.proofs.Common.{sym, ◌∙◌, ap, subst, ⊎_elim, arith, lt-ltb, le-ltb, le-leb, ltb→lt, ltb-true, ltb-false}
use Rattle.std.proofs.Math.Bool.{and-true, and_assoc}
use mathlib.Core.List.{List, [], ◌∷◌, ◌++◌, map}
use Rattle.std.proofs.lemmas.Bool.{lt-leb, cases_lt}
use Prim.Native.String.{String}
use Rattle.octets.specs.Lists.{ascii, all, each, u16?, key?, row_text, paired, present?}
use Rattle.octets.specs.Bits.{is_false, and_left, and_right}
use Rattle.octets.specs.Fields.{be16}
use Rattle.octets.specs.Parsed.{Parsed, parsed, failed, and_then, then_then, or_else, strip, held, strip_sound}
use Rattle.octets.specs.Codec.{Avoids, Any, Codec, fronts, table, exact, ◌▷◌, ◌◁◌, table_parser}
use Rattle.octets.specs.Hexadecimal.{hex}
use Rattle.octets.specs.Overlay.{Wrote, then}
use Rattle.octets.specs.Fields.{drop_past}
use Rattle.options.specs.Options.{members, rows, Value, syntax_of, shape, EdnsOption, Member, known, other, member_text}
use Rattle.edns.specs.Edns.{option_form, above?, rising?}
use Rattle.hex_or_octets.specs.declared.HexDigits.{HexDigits}
use Rattle.strict.specs.Grammar.{MemberIn}
use Rattle.strict.specs.Members.{octets_of, value?, option_of, member?}
use Rattle.strict.proofs.OptionLaws.{key_word}
use Rattle.strict.specs.Parser.{value, members-distinct, known_member, other_member, member, option_members}
use Rattle.parse_tokens.specs.declared.Cursor.{Cursor}
use Rattle.parse_tokens.specs.Cursor.{Reached, Safe, keeps_same, keeps_then, Passed, Advanced, reads_got, reads_stop}
use Rattle.parse_tokens.specs.Step.{Found, Put, Puts, Step, Held, Judged, found_as, found_at, found_from, found_by, found_lit}
use Rattle.parse_tokens.specs.Step.{found_behind, found_pair, found_stays, found_none, put_from, put_to, put_as, put_before}
use Rattle.parse_tokens.specs.Step.{put_judged, put_nothing, put_last, all_last, judged_when, put_when, step_behind}
use Rattle.parse_tokens.specs.Choice.{furthest, either_first, either_further, either_second}
use Rattle.parse_tokens.specs.Leaf.{found_equal, passed_took, passed_place}
use Rattle.parse_tokens.specs.Value.{reached, ValueRead, value_stop}
use Rattle.parse_tokens.specs.Number.{capped, till_parse, TillRead}
use Rattle.parse_tokens.specs.Hex.{HexRead}
use Rattle.parse_tables.specs.Rows.{RowRead}
use Rattle.parse_tokens.specs.Fields.{Done}
use Rattle.parse_tokens.specs.Place.{At}
use Rattle.parse_tokens.specs.Items.{part_of, item_of, Items, items_start, items_end, items_stop, items_less, items_more}
use Rattle.to_wire.specs.Kept.{Told, Kept, kept_stop}
use Rattle.to_wire.specs.Values.{ValueStep}

-- ---- code and length before a value
-- they were written at `start`, where the value ends at `to`
pub record Fronted (code start to : ℕ) (b b' : List ℕ) : Type 0 where
  pub wrote : code < 65536 → start + 4 ≤ to → Wrote b start (be16 code ++ be16 (to - (start + 4))) b' (start + 4)

pub fronted_none : {code start to : ℕ} {b : List ℕ} → to < start + 4 → Fronted code start to b b
fronted_none h = record { wrote = λ k l. absurd (omega arith) }

pub fronted : {code start to : ℕ} {b b₁ b₂ : List ℕ} {r s : ℕ} → Wrote b start (be16 (code % 65536)) b₁ s
    → Wrote b₁ s (be16 (to - (start + 4))) b₂ r → Fronted code start to b b₂
fronted {code} {start} {to} {b} {b₂ = b₂} {r = r} p q = record {
  wrote = λ k l.
      let z : code % 65536 ≡ code = omega arith in
      let e : r ≡ start + 4 = omega (arith, p.place, q.place) in
      subst (λ (n : ℕ). Wrote b start (be16 code ++ be16 (to - (start + 4))) b₂ n) e (then (rw z at p) q);
}

pub put_option : {A : Type 0} {ok : A → Bool} {value : A → List ℕ} {c h r : Cursor} {b b₁ b₂ : List ℕ} {a : A} {k : ℕ}
    (code : ℕ) → Held 4 c h → Put ok value h b r b₁ a
    → Fronted k c.to r.to b₁ b₂ → (T r.meaningful → (k ≡ code) × (code < 65536))
    → Put ok (λ a. option_form (record { code = code; value = value a })) c b r b₂ a
unfolding option_form
put_option {value = value} {c = c} {h = h} {r = r} {b₁ = b₁} {b₂ = b₂} {a = a} {k = k} code x p f m =
    put_before (λ a. be16 code ++ be16 (length (value a))) x refl p go
  where
    go : T r.meaningful → T r.bounded → Wrote b₁ c.to (be16 code ++ be16 (length (value a))) b₂ (c.to + 4)
    go y z =
        let s : T h.bounded = and_left h.bounded _ (subst T (p.bounded y) z) in
        let u : r.to ≡ c.to + 4 + length (value a) = omega (arith, x.to s, (p.wrote y z).place) in
        let v : r.to - (c.to + 4) ≡ length (value a) = omega (arith, u) in
        let w = m y in
        rw (w.0, v) at (f.wrote (omega (arith, w.0, w.1)) (omega (arith, u)))

-- ---- a member of the table
-- its name, in quotes, and the colon
abbrev pub name_codec : Codec (λ n. T (key? n members)) (λ n. ascii "\"" ++ (row_text n members ++ ascii "\":")) Any
name_codec = "\"" ▷ table members members-distinct ◁ "\":"

abbrev pub MemberNameRead : List ℕ → Cursor → Result (Cursor × ℕ) ℕ → Type 0
MemberNameRead t c r = ValueRead name_codec.parse (λ v n. v ≡ n) t (Ok c) r

module _ {t : List ℕ} {c : Cursor} where
  pub name_read : {d e f : Cursor} {n : ℕ} → Passed (ascii "\"") t (Ok c) (Ok d)
      → RowRead (table_parser members) t d (Ok (e, n)) → Passed (ascii "\":") t (Ok e) (Ok f)
      → MemberNameRead t c (Ok (f, n))
  name_read q x e = record {
    found = found_lit q (found_behind x.found e);
    keeps = keeps_then q.keeps (keeps_then x.keeps e.keeps);
  }

  pub name_stop : {d : Reached} {r : Result (Cursor × ℕ) ℕ} {n : ℕ} → Passed (ascii "\"") t (Ok c) d
      → ValueRead (table_parser members) (λ v n. v ≡ n) t d r → Passed (ascii "\":") t (reached r) (Err n)
      → MemberNameRead t c (Err n)
  name_stop q x e = value_stop (found_lit q (found_behind x.found e))

  -- its code is a key of the table
  pub name_word : {d : Cursor} {n : ℕ} → MemberNameRead t c (Ok (d, n)) → n < 65536
  name_word {d} {n} x =
      let g = reads_got x.found.reads in
      key_word n (rw g.holds (exact name_codec (drop c.at t) g.value (drop d.at t) g.is).0)

-- the value after it
abbrev pub KnownStep : ℕ → List ℕ → Reached → List ℕ → Reached → List ℕ → Type 0
KnownStep code t c b r b' =
    Step (value? (syntax_of code)) (λ v. option_form (record { code = code; value = octets_of (syntax_of code) v }))
    (value (syntax_of code)).parse t c b r b'

module _ (code : ℕ) {t : List ℕ} {c h : Cursor} {b b₁ : List ℕ} (x : Held 4 c h) where
  pub known_value : {r : Cursor} {b₂ : List ℕ} → code < 65536 → ValueStep (syntax_of code) t (Ok h) b (Ok r) b₁
      → Fronted code c.to r.to b₁ b₂ → KnownStep code t (Ok c) b (Ok r) b₂
  known_value k y f = found_from x.at
      (found_as y λ v z. record { holds = put_option code x z.holds f (λ m. (refl, k)) })

  pub known_value_stop : {n : ℕ} {b' : List ℕ} → ValueStep (syntax_of code) t (Ok h) b (Err n) b₁
      → KnownStep code t (Ok c) b (Err n) b'
  known_value_stop y = found_from x.at (found_none y)

-- the whole member
abbrev KnownOption : List ℕ → List ℕ → Cursor → Cursor × ℕ → (code : ℕ) × Value (syntax_of code) → Type 0
KnownOption b b' c x u = (x.1 ≡ u.0)
    × Put (value? (syntax_of u.0)) (λ v. option_form (record { code = u.0; value = octets_of (syntax_of u.0) v })) c b x.0 b'
    u.1

abbrev pub KnownRead : List ℕ → Cursor → List ℕ → Result (Cursor × ℕ) ℕ → List ℕ → Type 0
KnownRead t c b r b' = Kept known_member.parse (KnownOption b b') t (Ok c) r

module _ {t b b' : List ℕ} {c : Cursor} where
  pub known_read : {d r : Cursor} {code : ℕ} → MemberNameRead t c (Ok (d, code)) → KnownStep code t (Ok d) b (Ok r) b'
      → KnownRead t c b (Ok (r, code)) b'
  unfolding known_member
  known_read {d} {r} {code} x y = record {
    found = found_as (found_by (λ code. (value (syntax_of code)).parse)
        (λ code. Puts (value? (syntax_of code))
        (λ v. option_form (record { code = code; value = octets_of (syntax_of code) v })) (Ok d) b (Ok r) b')
        code x.found y)
        λ u h. record { holds = (h.0, put_from x.keeps.alike.holds h.1.holds) };
  }

  pub known_stop : {d : Cursor} {code n : ℕ} → MemberNameRead t c (Ok (d, code)) → KnownStep code t (Ok d) b (Err n) b'
      → KnownRead t c b (Err n) b'
  unfolding known_member
  known_stop {d} {code} {n} x y = kept_stop (found_by (λ code. (value (syntax_of code)).parse)
      (λ code v. Unit {0}) code x.found (found_none y))

  pub known_nameless : {n : ℕ} → MemberNameRead t c (Err n) → KnownRead t c b (Err n) b'
  unfolding known_member
  known_nameless x = kept_stop (found_by (λ code. (value (syntax_of code)).parse)
      (λ code v. Unit {0}) 0 (found_none x.found) found_stays)

-- ---- `OPTn`
-- its code is a number of 16 bits, and the value does not have the shape of a row of that code
abbrev pub other_fits? : ℕ → List ℕ → Bool
other_fits? n l = u16? n && not (present? (shape (syntax_of n) l))

fits_same : (n k : ℕ) (l : List ℕ) → n ≡ capped k → other_fits? k l ≡ other_fits? n l
fits_same n k l e = go (ltb n 65536) refl
  where
    go : (x : Bool) → ltb n 65536 ≡ x → other_fits? k l ≡ other_fits? n l
    go true d =
        let h = ltb-true n 65536 d in
        let z : k ≡ n = omega arith in
        ap (λ (i : ℕ). other_fits? i l) z
    go false d =
        let h = ltb-false n 65536 d in
        rw (d, le-ltb k 65536 (omega arith))

meant_word : (k : ℕ) (test : List ℕ → Bool) {wire : List ℕ → List ℕ} {c r : Cursor} {b b' l : List ℕ}
    → Put (λ l. u16? k && test l) wire c b r b' l → T r.meaningful → k < 65536
meant_word k test {c = c} {l = l} p g =
    ltb→lt k 65536 (and_left (u16? k) (test l)
    (and_right c.meaningful (u16? k && test l) (subst T p.meaningful g)))

-- the hexadecimal, of any number that was read as n
abbrev pub OtherHex : ℕ → List ℕ → Reached → List ℕ → Reached → List ℕ → Type 0
OtherHex n t c b r b' = Found hex.parse (λ l. (k : ℕ) → n ≡ capped k
    → Puts (other_fits? k) (λ l. option_form (record { code = k; value = l })) c b r b' l) t c r

module _ (n : ℕ) {t b : List ℕ} {c : Cursor} where
  pub other_hex_lem : {b₁ b₂ : List ℕ} {d i v r : Cursor} {h : HexDigits} {ok : Bool} → HexRead t c (Ok (d, h)) → Held 4 d i
      → Done (λ l. l ≡ paired h.digits.now) (λ l. true) (λ l. l) i b v b₁ → ok ≡ other_fits? n (paired h.digits.now)
      → Judged ok v r → Fronted (n % 65536) d.to r.to b₁ b₂ → OtherHex n t (Ok c) b (Ok r) b₂
  other_hex_lem {h = h} {ok = ok} y x p f j w =
      found_at y.found (j.at ∙ p.at ∙ x.at) (omega (arith, j.to, p.room)) λ l u k m.
      let q = put_judged {ok' = other_fits? k} (p.put l u) j
      (fits_same n k l m ∙ ap (other_fits? n) u ∙ sym f) in
      record {
        holds = put_from y.keeps.alike.holds (put_option k x q w λ g.
            let s = meant_word k (λ l. not (present? (shape (syntax_of k) l))) q g in (omega (arith, m, s), s));
      }

  pub other_hex_stop : {i : ℕ} {b' : List ℕ} → HexRead t c (Err i) → OtherHex n t (Ok c) b (Err i) b'
  other_hex_stop y = found_none y.found

-- the number and the hexadecimal
abbrev opt_parse : List ℕ → Parsed (ℕ × List ℕ)
opt_parse w = and_then (till_parse (ascii "\":") w) λ a w. and_then (hex.parse w) λ b r. parsed (a, b) r

abbrev OtherOption : List ℕ → List ℕ → Cursor → Cursor × ℕ → ℕ × List ℕ → Type 0
OtherOption b b' c x u =
    Put (λ (u : ℕ × List ℕ). member? (other u.0 u.1))
    (λ (u : ℕ × List ℕ). option_form (option_of (other u.0 u.1))) c b x.0 b' u × (T x.0.meaningful → x.1 ≡ u.0)

abbrev pub OptRead : List ℕ → Cursor → List ℕ → Result (Cursor × ℕ) ℕ → List ℕ → Type 0
OptRead t c b r b' = Kept opt_parse (OtherOption b b') t (Ok c) r

module _ {t b b' : List ℕ} {c : Cursor} where
  pub opt_read : {d r : Cursor} {n : ℕ} → TillRead (ascii "\":") t c (Ok (d, n)) → OtherHex n t (Ok d) b (Ok r) b'
      → OptRead t c b (Ok (r, n % 65536)) b'
  unfolding member? option_of
  opt_read {n = n} x y = record {
    found = found_as (found_pair x.found y) λ u h.
        let p = (h.1 u.0 h.0).holds in
        record {
          holds = (
            put_from x.keeps.alike.holds (put_as refl refl p),
            λ g. let s = meant_word u.0 (λ l. not (present? (shape (syntax_of u.0) l))) p g in omega (arith, h.0, s),
          );
        };
  }

  pub opt_stop : {d : Cursor} {n i : ℕ} → TillRead (ascii "\":") t c (Ok (d, n)) → OtherHex n t (Ok d) b (Err i) b'
      → OptRead t c b (Err i) b'
  opt_stop x y = kept_stop (found_pair x.found (found_none {Q = λ l. Unit {0}} y))

  pub opt_numberless : {i : ℕ} → TillRead (ascii "\":") t c (Err i) → OptRead t c b (Err i) b'
  opt_numberless x = kept_stop (found_pair {Q = λ l. Unit {0}} {q = hex.parse} x.found found_stays)

-- ---- a member, of the table or not
abbrev pub OneOption : List ℕ → List ℕ → Cursor → Cursor × ℕ → Member → Type 0
OneOption b b' c x m = Put member? (λ m. option_form (option_of m)) c b x.0 b' m
    × (T x.0.meaningful → x.1 ≡ (option_of m).code)

abbrev pub MemberRead : List ℕ → Cursor → List ℕ → Result (Cursor × ℕ) ℕ → List ℕ → Type 0
MemberRead t c b r b' = Kept member.parse (OneOption b b') t (Ok c) r

abbrev left_member : (code : ℕ) × Value (syntax_of code) → Member
left_member u = known u.0 u.1

abbrev right_member : ℕ × List ℕ → Member
right_member u = other u.0 u.1

-- no title of a table is in a text that begins with another octet
abbrev begins? : ℕ → List ℕ → Bool
begins? x [] = true
begins? x (y ∷ l) = eqb y x

no_title : (x : ℕ) (w : List ℕ) (table : List (ℕ × String)) → T (all (λ row. not (begins? x (ascii row.1))) table)
    → table_parser table (x ∷ w) ≡ failed (x ∷ w)
unfolding table_parser
no_title x w [] h = refl
no_title x w (row ∷ table) h =
    rw (no_title x w table (and_right (not (begins? x (ascii row.1))) _ h))
    (go (ascii row.1) (and_left (not (begins? x (ascii row.1))) _ h))
  where
    one : (b : Bool) → cond b (x ∷ w) (x ∷ w) ≡ x ∷ w
    one true = refl
    one false = refl

    go : (l : List ℕ) → T (not (begins? x l))
        → or_else (and_then (strip l (x ∷ w)) λ u r. parsed row.0 r) (failed (x ∷ w)) ≡ failed (x ∷ w)
    go [] h = absurd h
    go (y ∷ l) h = rw (is_false (eqb y x) h) (ap (λ v. failed v) (one (ltb (length (x ∷ w)) (length (x ∷ w)))))

-- no name begins with an O
nameless : (w : List ℕ) → known_member.parse (34 ∷ 79 ∷ w) ≡ failed (79 ∷ w)
unfolding known_member members rows
nameless w = rw (no_title 79 w members tt)

module _ {t : List ℕ} {c : Cursor} where
  no_opt : {n : ℕ} → Passed (ascii "\"OPT") t (Ok c) (Err n)
      → Found other_member.parse (λ u. Unit {0} × Unit {0}) t (Ok c) (Err n)
  unfolding other_member
  no_opt q = found_pair {P = λ m. Unit {0}} {Q = λ l. Unit {0}} {q = hex.parse}
      (found_lit {P = λ m. Unit {0}} {p = till_parse (ascii "\":")} q found_stays) found_stays

  -- `OPT` is not there
  pub member_known : {b b' : List ℕ} (r : Result (Cursor × ℕ) ℕ) {n : ℕ} → Passed (ascii "\"OPT") t (Ok c) (Err n) → KnownRead t c b r b'
      → MemberRead t c b (furthest r n) b'
  unfolding member member? option_of
  member_known (Ok x) q y = record {
    found = either_first left_member right_member known_member.parse other_member.parse y.found
        λ u h. record { holds = (put_as refl refl h.holds.1, λ m. h.holds.0) };
  }
  member_known (Err m) {n} q y = kept_stop (either_further left_member right_member known_member.parse other_member.parse
      (λ z u. Unit {0}) y.found (no_opt q) (λ u h. tt))

  module _ {d : Cursor} (q : Passed (ascii "\"OPT") t (Ok c) (Ok d)) where
    begins : ascii "\"OPT" ++ drop d.at t ≡ drop c.at t
    begins = held (strip_sound (ascii "\"OPT") (drop c.at t)) (passed_took q)

    -- so no name of the table is
    no_name : Found known_member.parse (λ u. Unit {0}) t (Ok c) (Err (c.at + 1))
    no_name = record {
      reads = reads_stop (rw (← begins) (nameless _) ∙ ap (λ w. failed w) (sym (drop_past t (34 ∷ []) _ c.at (sym begins))));
      moves = record { within = (omega arith, omega (arith, passed_place q, q.keeps.moves.within.0.inside)) };
    }

    with_opt : {P : ℕ × List ℕ → Type 0} {r : Reached} → Found opt_parse P t (Ok d) r → Found other_member.parse P t (Ok c) r
    unfolding other_member
    with_opt x = found_equal other_member.parse (λ w. sym (then_then (strip (ascii "\"OPT") w) (λ u r. till_parse (ascii "\":") r) _))
        (found_lit q x)

    -- `OPT` is there
    pub member_other : {b b' : List ℕ} (r : Result (Cursor × ℕ) ℕ) → OptRead t d b r b' → MemberRead t c b r b'
    unfolding member member? option_of
    member_other {b} {b'} (Ok x) y = record {
      found = either_second left_member right_member known_member.parse other_member.parse
          (λ z u. Told (λ c x. OneOption b b' c x u) (Ok c) (Ok x)) no_name (with_opt y.found)
          λ u h. record {
            holds = (put_from q.keeps.alike.holds (put_as refl refl h.holds.0), h.holds.1);
          };
    }
    member_other (Err m) y =
        let e : max m (c.at + 1) ≡ m = omega (arith, passed_place q, y.found.moves.within.0) in
        kept_stop (subst (λ k. Found member.parse (λ u. Unit {0}) t (Ok c) (Err k)) e
        (either_second left_member right_member known_member.parse other_member.parse (λ z u. Unit {0}) no_name
        (with_opt y.found) (λ u h. tt)))

-- ---- the members of an object, codes strictly rising
-- the lowest code that may come after these members
abbrev pub least_of : ℕ → List Member → ℕ
least_of k [] = k
least_of k (m ∷ l) = least_of ((option_of m).code + 1) l

abbrev pub options? : List Member → Bool
options? l = all member? l && rising? (map option_of l)

-- the first of them is not below k
abbrev from? : ℕ → List EdnsOption → Bool
from? k [] = true
from? k (o ∷ l) = leb k o.code

above_from : (code : ℕ) (l : List EdnsOption) → above? code l ≡ from? (code + 1) l
above_from code [] = refl
above_from code (o ∷ l) = ⊎_elim
    (λ h. lt-ltb code o.code h ∙ sym (le-leb (code + 1) o.code (omega arith)))
    (λ h. le-ltb code o.code h ∙ sym (lt-leb (code + 1) o.code (omega arith)))
    (cases_lt code o.code)

rising_from : (k : ℕ) (l : List Member) (m : Member)
    → (from? k (map option_of (l ++ (m ∷ [])))
    && rising? (map option_of (l ++ (m ∷ [])))) ≡ ((from? k (map option_of l) && rising? (map option_of l))
    && leb (least_of k l) (option_of m).code)
unfolding rising?
rising_from k [] m = and-true (leb k (option_of m).code)
rising_from k (o ∷ l) m =
    let e = rising_from ((option_of o).code + 1) l m in
    rw (above_from (option_of o).code (map option_of (l ++ (m ∷ []))), above_from (option_of o).code (map option_of l), e)
    (sym (and_assoc (leb k (option_of o).code) _ _))

from_zero : (l : List EdnsOption) → from? 0 l ≡ true
from_zero [] = refl
from_zero (o ∷ l) = le-leb 0 o.code (omega arith)

rising_last : (l : List Member) (m : Member)
    → rising? (map option_of (l ++ (m ∷ []))) ≡ (rising? (map option_of l) && leb (least_of 0 l) (option_of m).code)
rising_last l m =
    let e = rising_from 0 l m in
    rw (from_zero (map option_of (l ++ (m ∷ []))), from_zero (map option_of l)) at e

options_last : (l : List Member) (m : Member)
    → options? (l ++ (m ∷ [])) ≡ (options? l && (member? m && leb (least_of 0 l) (option_of m).code))
options_last l m = rw (all_last member? l m, rising_last l m)
    (go (all member? l) (member? m) (rising? (map option_of l)) (leb (least_of 0 l) (option_of m).code))
  where
    go : (a b c d : Bool) → ((a && b) && (c && d)) ≡ ((a && c) && (b && d))
    go true true c d = refl
    go true false true d = refl
    go true false false d = refl
    go false b c d = refl

least_last : (k : ℕ) (l : List Member) (m : Member) → least_of k (l ++ (m ∷ [])) ≡ (option_of m).code + 1
least_last k [] m = refl
least_last k (o ∷ l) m = least_last ((option_of o).code + 1) l m

-- one member, whose code is at least `least`
abbrev pub RisingOption : ℕ → List ℕ → List ℕ → Cursor → Cursor × ℕ → Member → Type 0
RisingOption least b b' c x m =
    Put (λ m. member? m && leb least (option_of m).code) (λ m. option_form (option_of m)) c b x.0 b' m
    × (T x.0.meaningful → x.1 ≡ (option_of m).code)

abbrev pub RisingRead : ℕ → List ℕ → Cursor → List ℕ → Result (Cursor × ℕ) ℕ → List ℕ → Type 0
RisingRead least t c b r b' = Kept (item_of member 125 false) (RisingOption least b b') t (Ok c) r

module _ (least : ℕ) {t b b' : List ℕ} {c : Cursor} where
  pub rising_read : {e r j : Cursor} {code : ℕ} → Passed (44 ∷ []) t (Ok c) (Ok e)
      → MemberRead t e b (Ok (r, code)) b' → Judged (leb least code) r j → RisingRead least t c b (Ok (j, code)) b'
  rising_read {e} {r} {j} {code} q x k = record {
    found = found_at (found_lit q x.found) k.at (omega (arith, k.to, x.found.moves.within.0.room)) λ m h. record {
      holds = (
        put_from q.keeps.alike.holds
            (put_judged h.holds.0 (judged_when k λ y. ap (leb least) (h.holds.1 y)) refl),
        λ y. h.holds.1 (and_left r.meaningful (leb least code) (subst T k.meaningful y)),
      );
    };
  }

  pub rising_stop : {e : Reached} {n : ℕ} {P : Member → Type 0} → Passed (44 ∷ []) t (Ok c) e → Found member.parse P t e (Err n)
      → RisingRead least t c b (Err n) b'
  rising_stop q x = kept_stop (found_lit q x)

-- the members found from c to d
pub record Rising (t : List ℕ) (c : Cursor) (b : List ℕ) (d : Cursor) (least : ℕ) (out : List ℕ) : Type 0 where
  pub items : Items member 125 (λ l. Put options? (each (λ m. option_form (option_of m))) c b d out l × (T d.meaningful
      → least ≡ least_of 0 l)) t c false d false
  pub long : length out ≡ length b

member_avoids : Avoids MemberIn member_text 125
unfolding member_text
member_avoids (known code v) r s h e = fronts tt e
member_avoids (other code l) r s h e = fronts tt e

member-comma : Avoids MemberIn (λ m. 44 ∷ member_text m) 125
member-comma m r s h e = fronts tt e

abbrev pub members_parse : List ℕ → Parsed (List Member)
members_parse = part_of member 125 false

abbrev pub OptionsStep : (List ℕ → Parsed (List Member)) → List ℕ → Reached → List ℕ → Reached → List ℕ → Type 0
OptionsStep p t c b r b' = Step options? (each (λ m. option_form (option_of m))) p t c b r b'

pub rising_start : {t b : List ℕ} {c : Cursor} → Safe t c → Rising t c b c 0 b
unfolding each rising?
rising_start {t} {b} h = record {
  items = items_start member 125 member_avoids member-comma t h (put_nothing b (keeps_same h) refl refl, λ y. refl);
  long = refl;
}

module _ {t b out : List ℕ} {c d : Cursor} {least : ℕ} (w : Rising t c b d least out) where
  pub rising_end : {r : Cursor} → At t d.at 125 → Advanced d (d.at + 1) r → OptionsStep members_parse t (Ok c) b (Ok r) out
  rising_end k s = items_end member 125 member_avoids member-comma t w.items k s
      (λ z l h. record { holds = put_to h.0 z })

  pub rising_halt : {n : ℕ} {out' b' : List ℕ} → (At t d.at 125 → ⊥) → RisingRead least t d out (Err n) out'
      → OptionsStep members_parse t (Ok c) b (Err n) b'
  rising_halt k y = items_stop member 125 member_avoids member-comma t w.items k y.found

  module _ {r : Cursor} {code : ℕ} {out' : List ℕ} (y : RisingRead least t d out (Ok (r, code)) out') where
    pub rising_less : length t - r.at < length t - d.at
    rising_less = items_less member 125 member_avoids member-comma t w.items y.found

    pub rising_more : {n : ℕ} → length out' ≡ length out → n ≡ code + 1 → Rising t c b r n out'
    rising_more {n} z e = record {
      items = items_more member 125 member_avoids member-comma t w.items y.found (λ l m p q. (
        put_last {ok = λ m. member? m && leb (least_of 0 l) (option_of m).code} l m (options_last l m) p.0
            (put_when (λ u. ap (λ (i : ℕ). member? m && leb i (option_of m).code) (p.1 u)) q.holds.0),
        λ u. e ∙ ap (λ (i : ℕ). i + 1) (q.holds.1 u) ∙ sym (least_last 0 l m),
      ));
      long = z ∙ w.long;
    }

-- with the last brace
pub options_read : {t : List ℕ} {c r s : Reached} {b b' : List ℕ} → OptionsStep members_parse t c b r b'
    → Passed (ascii "}") t r s → OptionsStep option_members.parse t c b s b'
unfolding option_members
options_read y e = step_behind y e
