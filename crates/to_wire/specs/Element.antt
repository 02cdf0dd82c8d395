-- The EDNS element after its title: what its reader shows.
use Rattle.std.specs.Prelude.{◌≡◌, refl, Bool, true, false, ◌&&◌, List, [], ◌∷◌, ◌++◌, map, ℕ, ◌+◌, ◌-◌, ◌*◌, ◌/◌, ◌%◌, ◌≤◌, ◌<◌, T, ltb, eqb, length, Result, Ok, Err, IfOk}
use Rattle.std.proofs.Common.{sym, ◌∙◌, ap, subst, arith, eqb-true, lt-ltb, ltb→lt}
use Rattle.octets.specs.Lists.{ascii, all, All, each, u8?, key?, row_text}
use Rattle.octets.specs.Bits.{is_true, and_left, and_right}
use Rattle.octets.specs.Fields.{be16, be32}
use Rattle.octets.specs.Parsed.{Parsed, parsed, failed, and_then, strip}
use Rattle.octets.specs.Codec.{Any, Codec, iso, joined, table, ◌▷◌, ◌◁◌, ◌⊗◌, table_parser}
use Rattle.octets.specs.Decimal.{decimal, natural, number, number_then}
use Rattle.octets.specs.Overlay.{Wrote, then}
use Rattle.names.specs.Name.{name_form}
use Rattle.records.specs.Message.{record_form, bit?}
use Rattle.options.specs.Options.{Member}
use Rattle.edns.specs.Edns.{rcodes, flags, full_rcode, option_form, option?, rising?, edns?, edns_record, EdnsItem}
use Rattle.strict.specs.Grammar.{MemberIn, EdnsIn}
use Rattle.strict.specs.Parser.{flags-distinct, rcodes-distinct, members_end_text, options_fit, option_members}
use Rattle.strict.specs.Parser.{edns_from, edns_element}
use Rattle.strict.specs.Members.{option_of, member?}
use Rattle.strict.proofs.OptionLaws.{key_holds, option_member_lem}
use Rattle.strict.specs.Meaning.{item_edns, edns_item?}
use Rattle.parse_tokens.specs.declared.Cursor.{Cursor}
use Rattle.parse_tokens.specs.Cursor.{Reached, Keeps, keeps_then, Passed}
use Rattle.parse_tokens.specs.Step.{Found, Put, Puts, Step, Held, Judged, found_at, found_from, found_none, found_stays, found_sound}
use Rattle.parse_tokens.specs.Step.{found_map, found_lit, found_behind, found_pair, put_from, put_as, put_before, put_judged}
use Rattle.parse_tokens.specs.Value.{reached, ValueRead, value_stop}
use Rattle.parse_tokens.specs.Number.{capped, capped_below, capped_is, NumberRead, TillRead}
use Rattle.parse_tables.specs.Rows.{RowRead}
use Rattle.to_wire.specs.Options.{options?, OptionsStep}
use Rattle.to_wire.specs.declared.element.EdnsHead.{EdnsHead}

-- ---- the parser after the title
abbrev pub behind_text : EdnsItem → List ℕ
behind_text e = (decimal e.version ++ ascii ",\"FLAGS\":")
    ++ (row_text e.flags flags ++ ((ascii ",\"RCODE\":\"" ++ (row_text e.rcode rcodes ++ ascii "\",\"UDPSIZE\":"))
    ++ (decimal e.size ++ members_end_text e.options)))

unfoldable pub edns_behind : Codec EdnsIn behind_text Any
edns_behind = iso (λ e. (e.version, (e.flags, (e.rcode, (e.size, e.options))))) edns_from (λ e h. (h, refl))
    (λ e h. (h, refl))
    (number_then ",\"FLAGS\":" tt number
    ⊗ table flags flags-distinct
    ⊗ ",\"RCODE\":\"" ▷ table rcodes rcodes-distinct ◁ "\",\"UDPSIZE\":"
    ⊗ joined number option_members (λ o r h m. options_fit o r))

unfoldable pub edns_rest : List ℕ → Parsed EdnsItem
edns_rest = edns_behind.parse

-- with the title it is that of the element
then_thrice : {A B C D : Type 0} (o : Parsed A) (f : A → List ℕ → Parsed B) (g : B → List ℕ → Parsed C) (h : C → List ℕ
    → Parsed D)
    → and_then (and_then (and_then o f) g) h ≡ and_then o (λ a r. and_then (and_then (f a r) g) h)
then_thrice (parsed a r) f g h = refl
then_thrice (failed w) f g h = refl

pub edns_parse : (w : List ℕ)
    → edns_element.parse w ≡ and_then (strip (ascii "{\"EDNS\":{\"Version\":") w) (λ u r. edns_rest r)
unfolding edns_element edns_rest edns_behind
edns_parse w = then_thrice (strip (ascii "{\"EDNS\":{\"Version\":") w)
    (λ u r. (number_then ",\"FLAGS\":" tt number).parse r) _ _

-- ---- its fields
abbrev pub rcode_codec : Codec (λ n. T (key? n rcodes)) (λ n. ascii ",\"RCODE\":\""
    ++ (row_text n rcodes ++ ascii "\",\"UDPSIZE\":")) Any
rcode_codec = ",\"RCODE\":\"" ▷ table rcodes rcodes-distinct ◁ "\",\"UDPSIZE\":"

abbrev pub RcodeRead : List ℕ → Cursor → Result (Cursor × ℕ) ℕ → Type 0
RcodeRead t c r = ValueRead rcode_codec.parse (λ v n. v ≡ n) t (Ok c) r

module _ {t : List ℕ} {c : Cursor} where
  pub rcode_read : {d e f : Cursor} {n : ℕ} → Passed (ascii ",\"RCODE\":\"") t (Ok c) (Ok d)
      → RowRead (table_parser rcodes) t d (Ok (e, n)) → Passed (ascii "\",\"UDPSIZE\":") t (Ok e) (Ok f)
      → RcodeRead t c (Ok (f, n))
  rcode_read q x e = record {
    found = found_lit q (found_behind x.found e);
    keeps = keeps_then q.keeps (keeps_then x.keeps e.keeps);
  }

  pub rcode_stop : {d : Reached} {r : Result (Cursor × ℕ) ℕ} {n : ℕ} → Passed (ascii ",\"RCODE\":\"") t (Ok c) d
      → ValueRead (table_parser rcodes) (λ v n. v ≡ n) t d r
      → Passed (ascii "\",\"UDPSIZE\":") t (reached r) (Err n) → RcodeRead t c (Err n)
  rcode_stop q x e = value_stop (found_lit q (found_behind x.found e))

-- the fields before the options, one after another
abbrev Fields : Type 0
Fields = ℕ × (ℕ × (ℕ × ℕ))

abbrev FieldsKept : EdnsHead → Fields → Type 0
FieldsKept h u =
    (h.version ≡ capped u.0) × ((h.flags ≡ u.1.0) × ((h.full ≡ u.1.1.0) × (h.size ≡ capped u.1.1.1)))

pub record EdnsHeadRead (t : List ℕ) (c : Cursor) (r : Result (Cursor × EdnsHead) ℕ) : Type 0 where
  pub i : Result (Cursor × ℕ) ℕ
  pub j : Result (Cursor × ℕ) ℕ
  pub k : Result (Cursor × ℕ) ℕ
  pub l : Result (Cursor × ℕ) ℕ
  pub version : TillRead (ascii ",\"FLAGS\":") t c i
  pub row : ValueRead (table_parser flags) (λ v n. v ≡ n) t (reached i) j
  pub full : ValueRead rcode_codec.parse (λ v n. v ≡ n) t (reached j) k
  pub size : ValueRead natural (λ v n. v ≡ capped n) t (reached k) l
  pub end : reached l ≡ reached r
  pub told : (u : Fields) → IfOk i (λ x. x.1 ≡ capped u.0) × (IfOk j (λ x. x.1 ≡ u.1.0)
      × (IfOk k (λ x. x.1 ≡ u.1.1.0) × IfOk l (λ x. x.1 ≡ capped u.1.1.1))) → IfOk r (λ x. FieldsKept x.1 u)

module _ {t : List ℕ} {c : Cursor} where
  pub edns_head_read : {d e f g : Cursor} {i j k l : ℕ} → TillRead (ascii ",\"FLAGS\":") t c (Ok (d, i))
      → RowRead (table_parser flags) t d (Ok (e, j)) → RcodeRead t e (Ok (f, k)) → NumberRead t f (Ok (g, l))
      → EdnsHeadRead t c (Ok (g, record { version = i; flags = j; full = k; size = l }))
  edns_head_read {d} {e} {f} {g} {i} {j} {k} {l} v w x y = record {
    i = Ok (d, i);
    j = Ok (e, j);
    k = Ok (f, k);
    l = Ok (g, l);
    version = v;
    row = w;
    full = x;
    size = y;
    end = refl;
    told = λ u h. h;
  }

  pub edns_head_stop : {i j k : Result (Cursor × ℕ) ℕ} {n : ℕ} → TillRead (ascii ",\"FLAGS\":") t c i
      → ValueRead (table_parser flags) (λ v n. v ≡ n) t (reached i) j
      → ValueRead rcode_codec.parse (λ v n. v ≡ n) t (reached j) k
      → ValueRead natural (λ v n. v ≡ capped n) t (reached k) (Err n) → EdnsHeadRead t c (Err n)
  edns_head_stop {i} {j} {k} {n} v w x y = record {
    i = i;
    j = j;
    k = k;
    l = Err n;
    version = v;
    row = w;
    full = x;
    size = y;
    end = refl;
    told = λ u h. tt;
  }

  pub edns_head_keeps : {r : Result (Cursor × EdnsHead) ℕ} → EdnsHeadRead t c r → Keeps t (Ok c) (reached r)
  edns_head_keeps x = subst (Keeps t (Ok c)) x.end
      (keeps_then x.version.keeps (keeps_then x.row.keeps (keeps_then x.full.keeps x.size.keeps)))

-- ---- what they must be
abbrev pub edns_fits? : ℕ → ℕ → ℕ → ℕ → Bool
edns_fits? version full rcode size = eqb version 0 && eqb (full % 16) rcode && ltb size 65536

-- the rest of the conditions follows from the grammar
abbrev pub element? : ℕ → EdnsItem → Bool
element? rcode e = edns_item? rcode e && edns? rcode (item_edns e)

options_valid : (l : List Member) → All MemberIn l → T (all member? l) → all option? (map option_of l) ≡ true
options_valid [] i h = refl
options_valid (m ∷ l) i h = rw (
  is_true (option? (option_of m)) (option_member_lem m i.0 (and_left (member? m) (all member? l) h)).1,
  options_valid l i.1 (and_right (member? m) (all member? l) h),
)

flags-bit : (n : ℕ) → T (key? n flags) → n < 2
unfolding flags
flags-bit n h = ltb→lt n 2 (key_holds bit? flags n tt h)

rcode_octet : (n : ℕ) → T (key? n rcodes) → n / 16 < 256
unfolding rcodes
rcode_octet n h = ltb→lt (n / 16) 256 (key_holds (λ n. u8? (n / 16)) rcodes n tt h)

element_is : (rcode : ℕ) (e : EdnsItem) → EdnsIn e
    → element? rcode e ≡ (options? e.options && edns_fits? e.version e.rcode rcode e.size)
unfolding edns_item? edns? item_edns
element_is rcode e i =
    rw (
      lt-ltb (e.rcode / 16) 256 (rcode_octet e.rcode i.1.1.0),
      lt-ltb e.flags 2 (flags-bit e.flags i.1.0),
    )
    (go (eqb e.version 0) (eqb (e.rcode % 16) rcode) (all member? e.options) (ltb e.size 65536)
    (rising? (map option_of e.options)) full (options_valid e.options i.1.1.1.1))
  where
    full : eqb (e.rcode % 16) rcode ≡ true → key? (full_rcode rcode (e.rcode / 16)) rcodes ≡ true
    full d = let z : full_rcode rcode (e.rcode / 16) ≡ e.rcode = omega (arith, eqb-true (e.rcode % 16) rcode d) in
        rw z (is_true _ i.1.1.0)

    go : {k p : Bool} (a b m s r : Bool) → (b ≡ true → k ≡ true) → (T m → p ≡ true)
        → (((a && b) && m) && (((((s && true) && true) && k) && p) && r)) ≡ ((m && r) && ((a && b) && s))
    go true true true s r f g = rw (f refl, g tt) (swap s r)
      where
        swap : (s r : Bool) → (((((s && true) && true) && true) && true) && r) ≡ (r && s)
        swap true true = refl
        swap true false = refl
        swap false true = refl
        swap false false = refl
    go true true false s r f g = refl
    go true false true s true f g = refl
    go true false true s false f g = refl
    go true false false s r f g = refl
    go false b true s true f g = refl
    go false b true s false f g = refl
    go false b false s r f g = refl

-- ---- the octets before the options
abbrev pub opt_front : ℕ → ℕ → ℕ → List ℕ
opt_front size ttl n = (0 ∷ []) ++ be16 41 ++ be16 size ++ be32 ttl ++ be16 n

abbrev pub opt_ttl : ℕ → ℕ → ℕ
opt_ttl full flags = full / 16 * 16777216 + flags * 32768

-- they were written at `start`, where the options end at `to`
pub record OptFronted (h : EdnsHead) (start to : ℕ) (b b' : List ℕ) : Type 0 where
  pub wrote : h.size < 65536 → h.full / 16 < 256 → h.flags < 2 → start + 11 ≤ to
      → Wrote b start (opt_front h.size (opt_ttl h.full h.flags) (to - (start + 11))) b' (start + 11)

pub opt_none : {h : EdnsHead} {start to : ℕ} {b : List ℕ} → to < start + 11 → OptFronted h start to b b
opt_none z = record { wrote = λ i j k l. absurd (omega arith) }

pub opt_fronted : {h : EdnsHead} {start to : ℕ} {b b₁ b₂ b₃ b₄ : List ℕ} {r₁ r₂ r₃ r₄ : ℕ}
    → Wrote b start (0 ∷ 0 ∷ 41 ∷ []) b₁ r₁ → Wrote b₁ r₁ (be16 (h.size % 65536)) b₂ r₂
    → Wrote b₂ r₂ (be32 (h.full / 16 % 256 * 16777216 + h.flags % 2 * 32768)) b₃ r₃
    → Wrote b₃ r₃ (be16 (to - (start + 11))) b₄ r₄ → OptFronted h start to b b₄
opt_fronted {h} {start} {to} {b} {b₄ = b₄} {r₁ = r₁} {r₂ = r₂} {r₃ = r₃} {r₄ = r₄} w x y z = record {
  wrote = λ i j k l.
      let s : h.size % 65536 ≡ h.size = omega arith in
      let u : h.full / 16 % 256 * 16777216 + h.flags % 2 * 32768 ≡ opt_ttl h.full h.flags = omega arith in
      let e : r₄ ≡ start + 11 = omega (arith, w.place, x.place, y.place, z.place) in
      subst (λ (n : ℕ). Wrote b start (opt_front h.size (opt_ttl h.full h.flags) (to - (start + 11))) b₄ n) e
      (then (then (then w (rw s at x)) (rw u at y)) z);
}

-- ---- the whole
each_option : (l : List Member) → each option_form (map option_of l) ≡ each (λ m. option_form (option_of m)) l
unfolding each
each_option [] = refl
each_option (m ∷ l) = ap (λ (z : List ℕ). option_form (option_of m) ++ z) (each_option l)

abbrev rdata_of : EdnsItem → List ℕ
rdata_of e = each (λ m. option_form (option_of m)) e.options

abbrev pub element_form : EdnsItem → List ℕ
element_form e = record_form (edns_record (item_edns e))

form_is : (e : EdnsItem) → element_form e ≡ opt_front e.size (opt_ttl e.rcode e.flags) (length (rdata_of e))
    ++ rdata_of e
unfolding record_form edns_record item_edns name_form
form_is e = rw (each_option e.options)

abbrev pub EdnsStep : ℕ → List ℕ → Reached → List ℕ → Reached → List ℕ → Type 0
EdnsStep rcode t c b r b' = Step (element? rcode) element_form edns_rest t c b r b'

-- the fields and the options
edns_found : {t : List ℕ} {c : Cursor} {r : Result (Cursor × EdnsHead) ℕ} {o : Reached} {P : List Member → Type 0}
    → EdnsHeadRead t c r → Found option_members.parse P t (reached r) o
    → Found edns_rest (λ e. IfOk r (λ x. FieldsKept x.1 (e.version, (e.flags, (e.rcode, e.size)))) × P e.options) t (Ok c)
    o
unfolding edns_rest edns_behind
edns_found {t = t} {o = o} {P = P} x members =
    found_map edns_from (λ u h. (
      x.told (u.0, (u.1.0, (u.1.1.0, u.1.1.1.0)))
          (h.0, (h.1.0, (h.1.1.0, h.1.1.1.0))),
      h.1.1.1.1,
    ))
    (found_pair x.version.found (found_pair x.row.found (found_pair x.full.found (found_pair x.size.found
    (subst (λ z. Found option_members.parse P t z o) (sym x.end) members)))))

-- a stop in the fields or in the options
pub edns_stop : (rcode : ℕ) {t b b' : List ℕ} {c : Cursor} {n : ℕ} → EdnsHeadRead t c (Err n)
    → EdnsStep rcode t (Ok c) b (Err n) b'
edns_stop rcode x = found_none (edns_found {P = λ l. Unit {0}} x found_stays)

pub options_stop : (rcode : ℕ) {t b b₁ b' : List ℕ} {c d h : Cursor} {f : EdnsHead} {n : ℕ} → EdnsHeadRead t c (Ok (d, f))
    → Held 11 d h → OptionsStep option_members.parse t (Ok h) b (Err n) b₁ → EdnsStep rcode t (Ok c) b (Err n) b'
options_stop rcode x places members = found_none (edns_found x (found_from places.at members))

pub edns_read : (rcode : ℕ) {t b b₁ b₂ : List ℕ} {c d h o j : Cursor} {f : EdnsHead} {ok : Bool}
    → EdnsHeadRead t c (Ok (d, f)) → Held 11 d h → OptionsStep option_members.parse t (Ok h) b (Ok o) b₁
    → ok ≡ edns_fits? f.version f.full rcode f.size → Judged ok o j → OptFronted f d.to j.to b₁ b₂
    → EdnsStep rcode t (Ok c) b (Ok j) b₂
unfolding edns_rest
edns_read rcode {t} {b} {b₁} {b₂} {c} {d} {h} {o} {j} {f} {ok} x places members fit judged front =
    found_at (found_sound edns_behind (edns_found x (found_from places.at members))) judged.at
    (omega (arith, judged.to, members.moves.within.0.room)) λ e k. record { holds = done e k.0 k.1 }
  where
    Q : EdnsItem → Type 0
    Q e = FieldsKept f (e.version, (e.flags, (e.rcode, e.size)))
        × Puts options? (each (λ m. option_form (option_of m))) (Ok h) b (Ok o) b₁ e.options

    front_of : EdnsItem → List ℕ
    front_of e = opt_front e.size (opt_ttl e.rcode e.flags) (length (rdata_of e))

    done : (e : EdnsItem) → EdnsIn e → Q e → Put (element? rcode) element_form c b j b₂ e
    done e i q = put_from (edns_head_keeps x).alike.holds
        (put_as refl (form_is e) (put_before front_of places refl p before))
      where
        fits : ok ≡ edns_fits? e.version e.rcode rcode e.size
        fits = fit ∙ rw (
          q.0.0,
          capped_is e.version 0 (omega arith),
          q.0.1.1.0,
          q.0.1.1.1,
          capped_below e.size 65536 (omega arith),
        )

        p : Put (element? rcode) rdata_of h b j b₁ e
        p = put_judged (put_as {ok' = λ e. options? e.options} {wire' = rdata_of} {a' = e} refl refl q.1.holds)
            judged (element_is rcode e i ∙ ap (λ (k : Bool). options? e.options && k) (sym fits))

        before : T j.meaningful → T j.bounded → Wrote b₁ d.to (front_of e) b₂ (d.to + 11)
        before y z =
            let start = d.to in
            let w : T (options? e.options && edns_fits? e.version e.rcode rcode e.size) =
            subst T (element_is rcode e i) (and_right h.meaningful (element? rcode e) (subst T p.meaningful y)) in
            let l : e.size < 65536 =
            ltb→lt e.size 65536
            (and_right (eqb e.version 0 && eqb (e.rcode % 16) rcode) (ltb e.size 65536)
            (and_right (options? e.options) _ w)) in
            let u : j.to ≡ start + 11 + length (rdata_of e) =
            omega (arith, places.to (and_left h.bounded _ (subst T (p.bounded y) z)), (p.wrote y z).place) in
            let n : j.to - (start + 11) ≡ length (rdata_of e) = omega (arith, u) in
            let g : f.size ≡ e.size = omega (arith, q.0.1.1.1) in
            let k = front.wrote (omega (arith, g)) (rw q.0.1.1.0 (rcode_octet e.rcode i.1.1.0))
            (rw q.0.1.0 (flags-bit e.flags i.1.0)) (omega (arith, u)) in
            rw (g, q.0.1.1.0, q.0.1.0, n) at k
