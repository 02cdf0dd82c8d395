-- Laws of the EDNS element: a record and its element tell each other.
use Rattle.std.specs.Prelude.{◌≡◌, refl, Bool, true, false, ◌&&◌, ◌||◌, cond, List, [], ◌∷◌, ◌++◌, ℕ, zero, suc, ◌+◌, ◌*◌, ◌/◌, ◌%◌, ◌<◌, ◌≤◌, T, leb, eqb, length, get_or, take, drop}
use Rattle.std.proofs.Common.{sym, ◌∙◌, ap, ap₂, subst, arith, le-leb, lt-ltb, eq-eqb, leb-true, eqb-true, leb→le, le→leb, ltb→lt, lt→ltb, eqb→eq, length-append, length-drop, take-append-drop, drop-drop, length-take-le}
use Rattle.std.proofs.Math.Option.{Option, none, some, some-injective, none-ne-some}
use Rattle.std.proofs.Math.Seq.{take-append_seam, drop-append_seam}
use Rattle.octets.specs.Lists.{all, All, none?, u8?, Octets, u16?, u32?, lookup, key?, each}
use Rattle.octets.specs.Bits.{is_true, both, and_left, and_right, All-append, octets_in_lem, octets_test}
use Rattle.octets.specs.Fields.{be16, be16_at, two_back, get_d_octet, two_at_word, two_octets, drop_one}
use Rattle.names.specs.Name.{name_form, name?}
use Rattle.names.specs.NameLaws.{drop-octets, take-octets}
use Rattle.names.specs.Walk.{part}
use Rattle.records.specs.Layout.{layout_of, layouts, laid, laid?, rdata_at, rdata_fits?}
use Rattle.records.specs.Message.{Record, bit?, record?}
use Rattle.options.specs.Options.{EdnsOption}
use Rattle.edns.specs.Edns.{option_form, prepend, divided, options_of, rising?, rcodes, Edns, full_rcode, edns_of}
use Rattle.edns.specs.Edns.{edns_record, option?, edns?, small?, small_option?}

-- ---- options in RDATA
-- one step of dividing: the octets of an option, then the rest
pub divided_end : (n : ℕ) → divided (suc n) [] ≡ some []
unfolding divided
divided_end n = refl

divided_step : (n : ℕ) (o : EdnsOption) (r : List ℕ) → o.code < 65536 → length o.value < 65536
    → divided (suc n) (option_form o ++ r) ≡ prepend o (divided n r)
unfolding divided option_form
divided_step n o r h k =
    let v = o.value in
    let l = option_form o ++ r in
    let size : be16_at l 2 ≡ length v = two_back (length v) k in
    let code : be16_at l 0 ≡ o.code = two_back o.code h in
    let long : length l ≡ 4 + length v + length r = omega (arith, length-append v r) in
    let after : drop (4 + length v) l ≡ r = sym (drop-drop (length v) 4 l) ∙ drop-append_seam v r in
    rw (
      size,
      code,
      le-leb 4 (length l) (omega arith),
      le-leb (4 + length v) (length l) (omega arith),
      after,
      take-append_seam v r,
    )

pub option_long : (o : EdnsOption) → length (option_form o) ≡ 4 + length o.value
unfolding option_form
option_long o = omega arith

-- a list of options is divided into itself, if there is a step for each and one more
divided_back : (n : ℕ) (l : List EdnsOption) → length (each option_form l) < n
    → All (λ o. (o.code < 65536) × (length o.value < 65536)) l
    → divided n (each option_form l) ≡ some l
unfolding each
divided_back zero l m h = absurd (omega arith)
divided_back (suc n) [] m h = divided_end n
divided_back (suc n) (o ∷ l) m h =
    let long = length-append (option_form o) (each option_form l) in
    divided_step n o (each option_form l) h.0.0 h.0.1
    ∙ ap (prepend o) (divided_back n l (omega (arith, option_long o)) h.1)

pub options_back : (l : List EdnsOption) → All (λ o. (o.code < 65536) × (length o.value < 65536)) l
    → options_of (each option_form l) ≡ some l
unfolding options_of
options_back l h = divided_back (suc (length (each option_form l))) l (omega arith) h

-- what is divided: nothing, or an option's octets and what is divided after them
data Divides (n : ℕ) (l : List ℕ) : List EdnsOption → Type 0 where
  ends : l ≡ [] → Divides n l []
  goes : {options : List EdnsOption} → 4 + be16_at l 2 ≤ length l → divided n (drop (4 + be16_at l 2) l) ≡ some options
      → Divides n l (record { code = be16_at l 0; value = take (be16_at l 2) (drop 4 l) } ∷ options)

prepend_back : {A : Type 0} (a : A) (o : Option (List A)) (l : List A) → prepend a o ≡ some l
    → (m : List A) × (o ≡ some m) × (a ∷ m ≡ l)
prepend_back a none l e = absurd (none-ne-some l e)
prepend_back a (some m) l e = (m, refl, some-injective (a ∷ m) l e)

divided_divides : (n : ℕ) (l : List ℕ) (options : List EdnsOption) → divided (suc n) l ≡ some options
    → Divides n l options
unfolding divided
divided_divides n [] options e = subst (Divides n []) (some-injective [] options e) (ends refl)
divided_divides n (x ∷ t) options e = go (leb 4 (length l)) (leb (4 + be16_at l 2) (length l)) refl e
  where
    l : List ℕ
    l = x ∷ t

    go : (a b : Bool) → leb (4 + be16_at l 2) (length l) ≡ b
        → cond (a && b) (prepend (record { code = be16_at l 0; value = take (be16_at l 2) (drop 4 l) })
        (divided n (drop (4 + be16_at l 2) l))) none ≡ some options
        → Divides n l options
    go true true p e =
        let (m, q, r) = prepend_back _ _ options e in
        subst (Divides n l) r (goes (leb-true (4 + be16_at l 2) (length l) p) q)
    go true false p e = absurd (none-ne-some options e)
    go false true p e = absurd (none-ne-some options e)
    go false false p e = absurd (none-ne-some options e)

-- the two octets at a place are those of the number there
two_there : (s : List ℕ) (at : ℕ) → Octets s → at + 1 < length s → drop at s ≡ be16 (be16_at s at) ++ drop (at + 2) s
two_there s at o h =
    let a = get_or s at 0 in
    let b = get_or s (at + 1) 0 in
    let p = get_d_octet s o at in
    let q = get_d_octet s o (at + 1) in
    let high : (a * 256 + b) / 256 % 256 ≡ a = omega arith in
    let low : (a * 256 + b) % 256 ≡ b = omega arith in
    let next : at + 1 + 1 ≡ at + 2 = omega arith in
    drop_one s at (omega arith) ∙ ap (λ t. a ∷ t) (drop_one s (at + 1) h ∙ ap (λ i. b ∷ drop i s) next)
    ∙ ap₂ (λ x y. x ∷ y ∷ drop (at + 2) s) (sym high) (sym low)

-- the octets of the first option, and those after it
option_there : (l : List ℕ) → Octets l → 4 + be16_at l 2 ≤ length l
    → option_form (record { code = be16_at l 0; value = take (be16_at l 2) (drop 4 l) }) ++ drop (4 + be16_at l 2) l ≡ l
unfolding option_form
option_there l o h =
    let size = be16_at l 2 in
    let long : length (take size (drop 4 l)) ≡ size = length-take-le size (drop 4 l) (omega (arith, length-drop 4 l)) in
    let value : take size (drop 4 l) ++ drop (4 + size) l ≡ drop 4 l =
    ap (λ t. take size (drop 4 l) ++ t) (sym (drop-drop size 4 l)) ∙ take-append-drop size (drop 4 l) in
    ap₂ (λ n t. be16 (be16_at l 0) ++ (be16 n ++ t)) long value
    ∙ sym (two_there l 0 o (omega arith) ∙ ap (λ t. be16 (be16_at l 0) ++ t) (two_there l 2 o (omega arith)))

-- octets that are those of a list of options, each in range
abbrev pub Divided : List ℕ → List EdnsOption → Type 0
Divided l options = (each option_form options ≡ l) × T (all option? options) × T (all small_option? options)

divides_form : (n : ℕ) (l : List ℕ) (options : List EdnsOption) → Octets l
    → ((m : List EdnsOption) → divided n (drop (4 + be16_at l 2) l) ≡ some m → Divided (drop (4 + be16_at l 2) l) m)
    → Divides n l options → Divided l options
unfolding each option? small_option?
divides_form n l [] o f (ends e) = (sym e, tt, tt)
divides_form n l (a ∷ options) o f (goes h e) =
    let size = be16_at l 2 in
    let value = take size (drop 4 l) in
    let long : length value ≡ size = length-take-le size (drop 4 l) (omega (arith, length-drop 4 l)) in
    let (p, q, r) = f options e in
    let code : T (u16? (be16_at l 0)) = lt→ltb (be16_at l 0) 65536 (two_at_word l o 0) in
    let octets : T (all u8? value) = octets_test value (take-octets size (drop 4 l) (drop-octets 4 l o)) in
    let small : T (small? value) = le→leb (length value) 65535 (omega (arith, two_at_word l o 2)) in (
      ap (λ t. option_form a ++ t) p ∙ option_there l o h,
      both (option? a) (all option? options) (both (u16? (be16_at l 0)) (all u8? value) code octets) q,
      both (small_option? a) (all small_option? options) small r,
    )

divided-form : (n : ℕ) (l : List ℕ) (options : List EdnsOption) → Octets l → divided n l ≡ some options
    → Divided l options
unfolding divided
divided-form zero l options o e = absurd (none-ne-some options e)
divided-form (suc n) l options o e =
    divides_form n l options o (λ m e. divided-form n (drop (4 + be16_at l 2) l) m (drop-octets (4 + be16_at l 2) l o) e)
    (divided_divides n l options e)

pub options_form : (l : List ℕ) (options : List EdnsOption) → Octets l → options_of l ≡ some options → Divided l options
unfolding options_of
options_form l options o e = divided-form (suc (length l)) l options o e

-- the tests of options as bounds
options_in_lem : (l : List EdnsOption) → T (all option? l) → T (all small_option? l)
    → All (λ o. (o.code < 65536) × (length o.value < 65536)) l
unfolding option? small_option?
options_in_lem [] h k = tt
options_in_lem (o ∷ l) h k =
    let code = and_left (u16? o.code) (all u8? o.value) (and_left (option? o) (all option? l) h) in
    let small = leb→le (length o.value) 65535 (and_left (small_option? o) (all small_option? l) k) in (
      (ltb→lt o.code 65536 code, omega arith),
      options_in_lem l (and_right (option? o) (all option? l) h) (and_right (small_option? o) (all small_option? l) k),
    )

-- ---- the EDNS element
-- the tests of an element, one by one
edns_tests : (rcode : ℕ) (e : Edns) → T (edns? rcode e)
    → (e.size < 65536) × (e.extended < 256) × (e.dnssec_ok < 2) × T (key? (full_rcode rcode e.extended) rcodes)
    × T (all option? e.options) × T (rising? e.options)
unfolding edns?
edns_tests rcode e h =
    let t1 = u16? e.size in
    let t2 = t1 && u8? e.extended in
    let t3 = t2 && bit? e.dnssec_ok in
    let t4 = t3 && key? (full_rcode rcode e.extended) rcodes in
    let t5 = t4 && all option? e.options in
    let h5 = and_left t5 (rising? e.options) h in
    let h4 = and_left t4 (all option? e.options) h5 in
    let h3 = and_left t3 (key? (full_rcode rcode e.extended) rcodes) h4 in
    let h2 = and_left t2 (bit? e.dnssec_ok) h3 in (
      ltb→lt e.size 65536 (and_left t1 (u8? e.extended) h2),
      ltb→lt e.extended 256 (and_right t1 (u8? e.extended) h2),
      ltb→lt e.dnssec_ok 2 (and_right t2 (bit? e.dnssec_ok) h3),
      and_right t3 (key? (full_rcode rcode e.extended) rcodes) h4,
      and_right t4 (all option? e.options) h5,
      and_right t5 (rising? e.options) h,
    )

edns_passes : (rcode : ℕ) (e : Edns) → e.size < 65536 → e.extended < 256 → e.dnssec_ok < 2
    → T (key? (full_rcode rcode e.extended) rcodes)
    → T (all option? e.options) → T (rising? e.options) → T (edns? rcode e)
unfolding edns?
edns_passes rcode e size extended dnssec_ok key options rising =
    rw (
      lt-ltb e.size 65536 size,
      lt-ltb e.extended 256 extended,
      lt-ltb e.dnssec_ok 2 dnssec_ok,
      is_true (key? (full_rcode rcode e.extended) rcodes) key,
      is_true (all option? e.options) options,
      is_true (rising? e.options) rising,
    ) tt

-- the fields of a TTL made of an octet and a bit
ttl_parts : (a b : ℕ) → b < 2
    → ((a * 16777216 + b * 32768) / 16777216 ≡ a) × ((a * 16777216 + b * 32768) / 65536 % 256 ≡ 0)
    × ((a * 16777216 + b * 32768) % 65536 ≡ b * 32768) × (b * 32768 / 32768 ≡ b)
ttl_parts a b h = (omega arith, omega arith, omega arith, omega arith)

bit-flags : (b : ℕ) → b < 2 → T (eqb (b * 32768) 0 || eqb (b * 32768) 32768)
bit-flags zero h = tt
bit-flags (suc zero) h = tt
bit-flags (suc (suc b)) h = absurd (omega arith)

-- what a record that becomes an element fulfils, and the element
pub record BecomesElement (rcode : ℕ) (r : Record) (options : List EdnsOption) : Type 0 where
  pub split : options_of r.rdata ≡ some options
  pub root : T (none? r.name)
  pub version : r.ttl / 65536 % 256 ≡ 0
  pub flags : T (eqb (r.ttl % 65536) 0 || eqb (r.ttl % 65536) 32768)
  pub key : T (key? (full_rcode rcode (r.ttl / 16777216)) rcodes)
  pub rises : T (rising? options)

abbrev pub element_of : Record → List EdnsOption → Edns
element_of r options =
    record { size = r.class; extended = r.ttl / 16777216; dnssec_ok = r.ttl % 65536 / 32768; options = options }

pub edns_shown : {rcode : ℕ} {r : Record} {options : List EdnsOption} → BecomesElement rcode r options
    → edns_of rcode r ≡ some (element_of r options)
unfolding edns_of
edns_shown {rcode} {r} {options} s =
    rw (
      s.split,
      edns_of,
      is_true (none? r.name) s.root,
      eq-eqb (r.ttl / 65536 % 256) 0 s.version,
      is_true (eqb (r.ttl % 65536) 0 || eqb (r.ttl % 65536) 32768) s.flags,
      is_true (key? (full_rcode rcode (r.ttl / 16777216)) rcodes) s.key,
      is_true (rising? options) s.rises,
    )

cond_some : {A : Type 0} (b : Bool) (x a : A) → cond b (some x) none ≡ some a → T b × (x ≡ a)
cond_some true x a e = (tt, some-injective x a e)
cond_some false x a e = absurd (none-ne-some a e)

pub edns_shows : (rcode : ℕ) (r : Record) (e : Edns) → edns_of rcode r ≡ some e
    → (options : List EdnsOption) × BecomesElement rcode r options × (element_of r options ≡ e)
unfolding edns_of
edns_shows rcode r e = go (options_of r.rdata) refl
  where
    go : (o : Option (List EdnsOption)) → options_of r.rdata ≡ o → edns_of rcode r ≡ some e
        → (options : List EdnsOption) × BecomesElement rcode r options × (element_of r options ≡ e)
    go none p q = absurd (none-ne-some e (rw (p, edns_of) at q))
    go (some options) p q =
        let t1 = none? r.name in
        let t2 = t1 && eqb (r.ttl / 65536 % 256) 0 in
        let flags = eqb (r.ttl % 65536) 0 || eqb (r.ttl % 65536) 32768 in
        let t3 = t2 && flags in
        let key = key? (full_rcode rcode (r.ttl / 16777216)) rcodes in
        let t4 = t3 && key in
        let (h, d) = cond_some (t4 && rising? options) (element_of r options) e (rw (p, edns_of) at q) in
        let h4 = and_left t4 (rising? options) h in
        let h3 = and_left t3 key h4 in
        let h2 = and_left t2 flags h3 in (
          options,
          record {
            split = p;
            root = and_left t1 (eqb (r.ttl / 65536 % 256) 0) h2;
            version = eqb→eq (r.ttl / 65536 % 256) 0 (and_right t1 (eqb (r.ttl / 65536 % 256) 0) h2);
            flags = and_right t2 flags h3;
            key = and_right t3 key h4;
            rises = and_right t4 (rising? options) h;
          },
          d,
        )

-- an element's record becomes that element
pub edns_back : (rcode : ℕ) (e : Edns) → T (edns? rcode e) → T (all small_option? e.options)
    → edns_of rcode (edns_record e) ≡ some e
unfolding edns_record
edns_back rcode e h k =
    let (size, extended, bit, key, options, rising) = edns_tests rcode e h in
    let r = edns_record e in
    let (u, v, w, x) = ttl_parts e.extended e.dnssec_ok bit in
    let flag : r.ttl % 65536 / 32768 ≡ e.dnssec_ok = ap (λ n. n / 32768) w ∙ x in
    let s : BecomesElement rcode r e.options = record {
      split = options_back e.options (options_in_lem e.options options k);
      root = tt;
      version = v;
      flags = rw w (bit-flags e.dnssec_ok bit);
      key = rw u key;
      rises = rising;
    } in
    edns_shown s ∙ ap some (λ i. record { size = e.size; extended = u i; dnssec_ok = flag i; options = e.options })

-- the tests of a record, one by one
record_tests : (r : Record) → T (record? r) → (r.class < 65536) × (r.ttl < 4294967296) × Octets r.rdata
unfolding record?
record_tests r h =
    let t2 = name? r.name && u16? r.type in
    let t3 = t2 && u16? r.class in
    let t4 = t3 && u32? r.ttl in
    let t5 = t4 && all u8? r.rdata in
    let h5 = and_left t5 (rdata_fits? r.type r.rdata) h in
    let h4 = and_left t4 (all u8? r.rdata) h5 in
    let h3 = and_left t3 (u32? r.ttl) h4 in (
      ltb→lt r.class 65536 (and_right t2 (u16? r.class) h3),
      ltb→lt r.ttl 4294967296 (and_right t3 (u32? r.ttl) h4),
      octets_in_lem r.rdata (and_right t4 (all u8? r.rdata) h5),
    )

-- a TTL with version 0 and flags 0 or 0x8000 is made of its octet and its bit
ttl_whole : (n : ℕ) → n / 65536 % 256 ≡ 0 → T (eqb (n % 65536) 0 || eqb (n % 65536) 32768)
    → n / 16777216 * 16777216 + n % 65536 / 32768 * 32768 ≡ n
ttl_whole n v f =
    let same : n / 65536 / 256 ≡ n / 16777216 = omega arith in
    go same (eqb (n % 65536) 0) (eqb (n % 65536) 32768) refl refl f
  where
    go : n / 65536 / 256 ≡ n / 16777216 → (a b : Bool) → eqb (n % 65536) 0 ≡ a → eqb (n % 65536) 32768 ≡ b → T (a || b)
        → n / 16777216 * 16777216 + n % 65536 / 32768 * 32768 ≡ n
    go w true b p q t = let z = eqb-true (n % 65536) 0 p in omega arith
    go w false true p q t = let z = eqb-true (n % 65536) 32768 q in omega arith
    go w false false p q t = absurd t

root_name : {A : Type 0} (l : List A) → T (none? l) → [] ≡ l
root_name [] h = refl
root_name (x ∷ l) h = absurd h

-- a record that becomes an element is the element's record, and the element is in range
pub edns_record_lem : (rcode : ℕ) (r : Record) (e : Edns) → T (record? r) → r.type ≡ 41 → edns_of rcode r ≡ some e
    → (edns_record e ≡ r) × T (edns? rcode e) × T (all small_option? e.options)
unfolding edns_record
edns_record_lem rcode r e h k q = go (edns_shows rcode r e q)
  where
    go : (options : List EdnsOption) × BecomesElement rcode r options × (element_of r options ≡ e)
        → (edns_record e ≡ r) × T (edns? rcode e) × T (all small_option? e.options)
    go (options, s, d) =
        let (class, ttl, octets) = record_tests r h in
        let (rdata, range, small) = options_form r.rdata options octets s.split in
        let name = root_name r.name s.root in
        let whole = ttl_whole r.ttl s.version s.flags in
        let type = sym k in
        let a : edns_record (element_of r options) ≡ r =
        λ i. record { name = name i; type = type i; class = r.class; ttl = whole i; rdata = rdata i } in
        let b : T (edns? rcode (element_of r options)) =
        edns_passes rcode (element_of r options) class (omega arith) (omega arith) s.key range s.rises in
        subst (λ (e : Edns). (edns_record e ≡ r) × T (edns? rcode e) × T (all small_option? e.options)) d
        (a, b, small)

-- ---- records and entries of the additional section
-- everything fits TYPE 41, which is not in the table of layouts
pub opt_fits : (l : List ℕ) → T (rdata_fits? 41 l)
unfolding rdata_fits? rdata_at layout_of layouts lookup
opt_fits l = go (eqb (length l) 0)
  where
    go : (b : Bool) → T (laid? (cond b (laid []) (laid (part l 0 (length l)))))
    go true = tt
    go false = tt

-- options in range are octets
options_octets : (l : List EdnsOption) → T (all option? l) → Octets (each option_form l)
unfolding each option? option_form
options_octets [] h = tt
options_octets (o ∷ l) h =
    let value = octets_in_lem o.value
    (and_right (u16? o.code) (all u8? o.value) (and_left (option? o) (all option? l) h)) in
    let fixed = All-append (λ x. x < 256) (be16 o.code) (be16 (length o.value)) (two_octets o.code)
    (two_octets (length o.value)) in
    All-append (λ x. x < 256) (option_form o) (each option_form l)
    (All-append (λ x. x < 256) (be16 o.code ++ be16 (length o.value)) o.value fixed value)
    (options_octets l (and_right (option? o) (all option? l) h))

-- the record of an element in range is valid
pub edns_valid : (rcode : ℕ) (e : Edns) → T (edns? rcode e) → T (record? (edns_record e))
unfolding record? edns_record name? name_form
edns_valid rcode e h =
    let (size, extended, bit, key, options, rising) = edns_tests rcode e h in
    let r = edns_record e in
    let octets = octets_test r.rdata (options_octets e.options options) in
    rw (
      lt-ltb e.size 65536 size,
      lt-ltb r.ttl 4294967296 (omega arith),
      is_true (all u8? r.rdata) octets,
      is_true (rdata_fits? 41 r.rdata) (opt_fits r.rdata),
    ) tt
