-- Laws of the meaning of a document: a valid view's document means that view, and a document that means a view is that
-- view's.
use mathlib.Core.Path.{◌≡◌, refl, sym, ◌∙◌, ap, ap₂, subst}
use mathlib.Core.Bool.{Bool, true, false, not, ◌&&◌, cond}
use mathlib.Core.Option.{some}
use mathlib.Core.List.{List, [], ◌∷◌, map}
use Prim.Native.Nat.{ℕ, zero, suc, ◌+◌, ◌-◌, ◌*◌, ◌/◌, ◌%◌, ◌<◌}
use Prim.Native.String.{String}
use native.Mathlib.Omega.{arith}
use borrow.Author.Tests.{le-ltb}
use lib.Dec.{T, ltb, eqb, leb→le, le→leb, ltb→lt, eqb→eq, eqb_refl, nltb→le}
use lib.ListN.{length, length-map}
use Rattle.octets.specs.Lists.{all, All, count, u8?, u16?, u32?, key?}
use Rattle.octets.specs.Bits.{is_true, both, and_left, and_right, all→All, All-map, octets_in_lem}
use Rattle.names.specs.Name.{Name, label?, name?}
use Rattle.names.specs.NameLaws.{name-labels, label-octets}
use Rattle.records.specs.Layout.{rdata_fits?}
use Rattle.records.specs.Message.{Question, Record, bit?, header?, question?, record?, section?}
use Rattle.records.proofs.MessageLaws.{Bounds, header_parts}
use Rattle.spelling.specs.Spelling.{Signed, plus, minus, signed}
use Rattle.options.specs.Options.{EdnsOption, member_of}
use Rattle.edns.specs.Edns.{flags, Edns, full_rcode, rcodes, rising?, option?, edns?, EdnsItem, edns_item}
use Rattle.json_text.specs.View.{Additional, View, additional?, settled?, opt_entry?, additionals?, view?}
use Rattle.json_text.specs.Document.{RecordItem, Item, Document, ad_titles}
use Rattle.json_text.specs.Text.{record_item, item, document_of}
use Rattle.json_text.specs.View as view
use Rattle.json_text.specs.Document as doc
use Rattle.strict.specs.Members.{option_of, member?}
use Rattle.strict.specs.Grammar.{Label, Labels, SignedNumber, QuestionIn, RecordIn, MemberIn, EdnsIn, ItemIn}
use Rattle.strict.specs.Grammar.{DocumentIn}
use Rattle.strict.specs.Meaning.{unsigned, item_record, item_edns, item_additional, document_view, ttl?, record_item?}
use Rattle.strict.specs.Meaning.{edns_item?, item?, counts?, agrees?, meaning}
use Rattle.strict.proofs.OptionLaws.{one_some, member_option, option_member_lem}

-- ---- TTL
-- the 32 bits of a TTL are read back from its number, which is in range and no -0
pub signed_back : (n : ℕ) → n < 4294967296 → (unsigned (signed n) ≡ n) × T (ttl? (signed n)) × SignedNumber (signed n)
unfolding signed unsigned ttl?
signed_back n h = go (ltb n 2147483648) refl
  where
    one : ℕ → Bool → Signed
    one n b = cond b (plus n) (minus (4294967296 - n))

    go : (b : Bool) → ltb n 2147483648 ≡ b → (unsigned (one n b) ≡ n) × T (ttl? (one n b)) × SignedNumber (one n b)
    go true e = (refl, subst T (sym e) tt, tt)
    go false e =
        let k = nltb→le n 2147483648 (subst (λ b. T (not b)) (sym e) tt) in
        (omega arith, le→leb (4294967296 - n) 2147483648 (omega arith), omega arith)

-- a number in range is written again from its bits
pub unsigned_back : (s : Signed) → SignedNumber s → T (ttl? s) → (signed (unsigned s) ≡ s) × (unsigned s < 4294967296)
unfolding signed unsigned ttl?
unsigned_back (plus n) i h = let k = ltb→lt n 2147483648 h in (rw (is_true (ltb n 2147483648) h) refl, omega arith)
unsigned_back (minus n) i h =
    let k = leb→le n 2147483648 h in
    let e : 4294967296 - (4294967296 - n) ≡ n = omega arith in
    (rw (le-ltb (4294967296 - n) 2147483648 (omega arith)) (ap minus e), omega arith)

-- ---- lists of entries that are written as others, and read back
module _ {A B : Type 0} (f : A → B) (g : B → A) (I : B → Type 0) (p : A → Bool) (q : B → Bool) where
  -- what is written is in the grammar, passes the test, and is read back
  all_forth : ((a : A) → T (p a) → I (f a) × T (q (f a)) × (g (f a) ≡ a))
      → (l : List A) → T (all p l) → All I (map f l) × T (all q (map f l)) × (map g (map f l) ≡ l)
  all_forth step [] h = (tt, tt, refl)
  all_forth step (a ∷ l) h =
      let s = step a (and_left (p a) (all p l) h) in
      let r = all_forth step l (and_right (p a) (all p l) h) in
      ((s.0, r.0), both (q (f a)) (all q (map f l)) s.1 r.1, ap₂ (λ (x : A) (t : List A). x ∷ t) s.2 r.2)

  -- what is read is written again
  all_back : ((b : B) → I b → T (q b) → f (g b) ≡ b) → (l : List B) → All I l → T (all q l) → map f (map g l) ≡ l
  all_back step [] i h = refl
  all_back step (b ∷ l) i h =
      ap₂ (λ (x : B) (t : List B). x ∷ t) (step b i.0 (and_left (q b) (all q l) h))
      (all_back step l i.1 (and_right (q b) (all q l) h))

-- ---- names
-- a valid label has octets, and at least one
label_in : (l : List ℕ) → T (label? l) → Label l
unfolding label?
label_in [] h = absurd h
label_in (x ∷ l) h = (label-octets (x ∷ l) h, tt)

-- a valid name's labels are such
pub name_in_lem : (n : Name) → T (name? n) → Labels n
name_in_lem n h = All-map label_in n (all→All label? n (name-labels n h))

-- a valid question is in the grammar
question_in : (q : Question) → T (question? q) → QuestionIn q
unfolding question?
question_in q h = (
  name_in_lem q.name
      (and_left (name? q.name) (u16? q.type)
      (and_left (name? q.name && u16? q.type) (u16? q.class) h)),
  (tt, tt),
)

-- ---- records
-- the parts of a valid record that the grammar speaks of
record_parts : (r : Record) → T (record? r) → T (name? r.name) × T (u32? r.ttl) × T (all u8? r.rdata)
unfolding record?
record_parts r h =
    let a = name? r.name && u16? r.type && u16? r.class in
    let i = and_left (a && u32? r.ttl && all u8? r.rdata) (rdata_fits? r.type r.rdata) h in
    let j = and_left (a && u32? r.ttl) (all u8? r.rdata) i in
    let k = and_left a (u32? r.ttl) j in (
      and_left (name? r.name) (u16? r.type) (and_left (name? r.name && u16? r.type) (u16? r.class) k),
      and_right a (u32? r.ttl) j,
      and_right (a && u32? r.ttl) (all u8? r.rdata) i,
    )

-- a valid record's members are in the grammar and in range, and are read back
record_forth : (r : Record) → T (record? r)
    → RecordIn (record_item r) × T (record_item? (record_item r)) × (item_record (record_item r) ≡ r)
unfolding record_item item_record
record_forth r h =
    let parts = record_parts r h in
    let s = signed_back r.ttl (ltb→lt r.ttl 4294967296 parts.1) in (
      (name_in_lem r.name parts.0, (tt, (tt, (s.2, octets_in_lem r.rdata parts.2)))),
      s.1,
      λ i. record { name = r.name; type = r.type; class = r.class; ttl = s.0 i; rdata = r.rdata },
    )

-- members in range are written again
record_back : (r : RecordItem) → RecordIn r → T (record_item? r) → record_item (item_record r) ≡ r
unfolding record_item item_record
record_back r i h =
    let e = (unsigned_back r.ttl i.1.1.1.0 h).0 in
    λ i. record { name = r.name; type = r.type; class = r.class; ttl = e i; rdata = r.rdata }

-- ---- the EDNS element
-- a valid option's member is in the grammar, and the option is its own
option_forth : (o : EdnsOption) → T (option? o)
    → MemberIn (member_of o) × T (member? (member_of o)) × (option_of (member_of o) ≡ o)
unfolding option?
option_forth o h =
    let w = member_option o (octets_in_lem o.value (and_right (u16? o.code) (all u8? o.value) h))
    (ltb→lt o.code 65536 (and_left (u16? o.code) (all u8? o.value) h)) in
    (w.2, w.1, w.0)

-- a bit is a key of a table with both
bit_key : (rows : List (ℕ × String)) → T (key? 0 rows) → T (key? 1 rows) → (n : ℕ) → n < 2 → T (key? n rows)
bit_key rows h k zero l = h
bit_key rows h k (suc zero) l = k
bit_key rows h k (suc (suc n)) l = absurd (omega arith)

-- the parts of a valid EDNS element that the grammar and its members speak of
edns_parts : (rcode : ℕ) (e : Edns) → T (edns? rcode e)
    → T (bit? e.dnssec_ok) × T (key? (full_rcode rcode e.extended) rcodes) × T (all option? e.options)
unfolding edns?
edns_parts rcode e h =
    let a = u16? e.size && u8? e.extended in
    let b = a && bit? e.dnssec_ok in
    let c = b && key? (full_rcode rcode e.extended) rcodes in
    let i = and_left (c && all option? e.options) (rising? e.options) h in
    let j = and_left c (all option? e.options) i in (
      and_right a (bit? e.dnssec_ok) (and_left b (key? (full_rcode rcode e.extended) rcodes) j),
      and_right b (key? (full_rcode rcode e.extended) rcodes) j,
      and_right c (all option? e.options) i,
    )

-- a valid EDNS element's members are in the grammar and agree with the header, and are read back
edns_forth : (rcode : ℕ) → rcode < 16 → (e : Edns) → T (edns? rcode e)
    → EdnsIn (edns_item rcode e) × T (edns_item? rcode (edns_item rcode e)) × (item_edns (edns_item rcode e) ≡ e)
unfolding edns_item edns_item? item_edns flags key?
edns_forth rcode k e h =
    let parts = edns_parts rcode e h in
    let w = all_forth member_of option_of MemberIn option? member? option_forth e.options parts.2 in
    let low : (e.extended * 16 + rcode) % 16 ≡ rcode = omega arith in
    let high : (e.extended * 16 + rcode) / 16 ≡ e.extended = omega arith in (
      (tt, (bit_key flags tt tt e.dnssec_ok (ltb→lt e.dnssec_ok 2 parts.0), (parts.1, (tt, w.0)))),
      both (eqb ((e.extended * 16 + rcode) % 16) rcode) (all member? (map member_of e.options))
          (rw low (eqb_refl rcode)) w.1,
      λ i. record { size = e.size; extended = high i; dnssec_ok = e.dnssec_ok; options = w.2 i },
    )

-- members that agree with the header are written again
edns_back : (rcode : ℕ) (e : EdnsItem) → EdnsIn e → T (edns_item? rcode e) → edns_item rcode (item_edns e) ≡ e
unfolding edns_item edns_item? item_edns
edns_back rcode e i h =
    let a = eqb e.version 0 && eqb (e.rcode % 16) rcode in
    let t = and_left a (all member? e.options) h in
    let zeroth : 0 ≡ e.version =
    sym (eqb→eq e.version 0 (and_left (eqb e.version 0) (eqb (e.rcode % 16) rcode) t)) in
    let low = eqb→eq (e.rcode % 16) rcode (and_right (eqb e.version 0) (eqb (e.rcode % 16) rcode) t) in
    let whole : e.rcode / 16 * 16 + rcode ≡ e.rcode = omega arith in
    let w = all_back member_of option_of MemberIn option? member? (λ m i t. (option_member_lem m i t).0) e.options
    i.1.1.1.1 (and_right a (all member? e.options) h) in
    λ i. record { version = zeroth i; flags = e.flags; rcode = whole i; size = e.size; options = w i }

-- ---- the additional section
-- an entry of a valid section is read back
item_forth : (rcode : ℕ) → rcode < 16 → (a : Additional) → T (additional? rcode a)
    → ItemIn (item rcode a) × T (item? rcode (item rcode a)) × (item_additional (item rcode a) ≡ a)
unfolding item item? item_additional additional?
item_forth rcode k (view.ordinary r) h = let w = record_forth r h in (w.0, w.1, ap view.ordinary w.2)
item_forth rcode k (view.edns e) h = let w = edns_forth rcode k e h in (w.0, w.1, ap view.edns w.2)

-- an item that agrees with the header is written again
item_back : (rcode : ℕ) (a : Item) → ItemIn a → T (item? rcode a) → item rcode (item_additional a) ≡ a
unfolding item item? item_additional
item_back rcode (doc.ordinary r) i h = ap doc.ordinary (record_back r i h)
item_back rcode (doc.edns e) i h = ap doc.edns (edns_back rcode e i h)

-- ---- the whole document
-- the parts of a valid view: the header's fields, and the entries of the sections
view_parts : (v : View) → T (view? v)
    → Bounds v.header × T (all question? v.questions) × T (all record? v.answers)
    × T (all record? v.authority) × T (all (additional? v.header.rcode) v.additional)
unfolding view? additionals?
view_parts v h =
    let a = header? v.header in
    let b = a && section? question? v.questions in
    let c = b && section? record? v.answers in
    let d = c && section? record? v.authority in
    let rcode = v.header.rcode in
    let last = section? (additional? rcode) v.additional in
    let i = and_left d (additionals? rcode v.additional) h in
    let j = and_left c (section? record? v.authority) i in
    let k = and_left b (section? record? v.answers) j in (
      header_parts v.header (and_left a (section? question? v.questions) k),
      and_right (u16? (length v.questions)) (all question? v.questions)
          (and_right a (section? question? v.questions) k),
      and_right (u16? (length v.answers)) (all record? v.answers)
          (and_right b (section? record? v.answers) j),
      and_right (u16? (length v.authority)) (all record? v.authority)
          (and_right c (section? record? v.authority) i),
      and_right (u16? (length v.additional)) (all (additional? rcode) v.additional)
          (and_left last (all (settled? rcode (count opt_entry? v.additional)) v.additional)
          (and_right d (additionals? rcode v.additional) h)),
    )

-- a section of records of a valid view
records_forth : (l : List Record) → T (all record? l)
    → All RecordIn (map record_item l) × T (all record_item? (map record_item l)) × (map item_record (map record_item l) ≡ l)
records_forth = all_forth record_item item_record RecordIn record? record_item? record_forth

-- the additional section of a valid view
items_forth : (rcode : ℕ) → rcode < 16 → (l : List Additional) → T (all (additional? rcode) l)
    → All ItemIn (map (item rcode) l) × T (all (item? rcode) (map (item rcode) l))
    × (map item_additional (map (item rcode) l) ≡ l)
items_forth rcode k =
    all_forth (item rcode) item_additional ItemIn (additional? rcode) (item? rcode) (item_forth rcode k)

-- a valid view's document is in the grammar
pub view_in : (v : View) → T (view? v) → DocumentIn (document_of v)
unfolding document_of ad_titles key?
view_in v h =
    let parts = view_parts v h in (
      bit_key ad_titles tt tt v.header.z parts.0.z,
      (
        All-map question_in v.questions (all→All question? v.questions parts.1),
        (
          (records_forth v.answers parts.2).0,
          (
            (records_forth v.authority parts.3).0,
            (items_forth v.header.rcode parts.0.rcode v.additional parts.4).0,
          ),
        ),
      ),
    )

-- as many entries are written as there are
same_count : {A B : Type 0} (f : A → B) (l : List A) → T (eqb (length l) (length (map f l)))
same_count f l = rw (length-map l f) (eqb_refl (length l))

-- a view's document has the counts of its arrays
view_counts : (v : View) → T (counts? (document_of v))
unfolding document_of counts?
view_counts v =
    let q = eqb (length v.questions) (length v.questions) in
    let a = eqb (length v.answers) (length (map record_item v.answers)) in
    let n = eqb (length v.authority) (length (map record_item v.authority)) in
    let r = eqb (length v.additional) (length (map (item v.header.rcode) v.additional)) in
    both (q && a && n) r
    (both (q && a) n (both q a (eqb_refl (length v.questions)) (same_count record_item v.answers))
    (same_count record_item v.authority))
    (same_count (item v.header.rcode) v.additional)

-- a valid view's document agrees with the view
view_agrees : (v : View) → T (view? v) → T (agrees? (document_of v))
unfolding document_of agrees?
view_agrees v h =
    let parts = view_parts v h in
    let d = document_of v in
    let tests = counts? d && all record_item? d.answers in
    both (tests && all record_item? d.authority) (all (item? d.header.rcode) d.additional)
    (both tests (all record_item? d.authority)
    (both (counts? d) (all record_item? d.answers) (view_counts v) (records_forth v.answers parts.2).1)
    (records_forth v.authority parts.3).1)
    (items_forth v.header.rcode parts.0.rcode v.additional parts.4).1

-- the view is read back
view_back : (v : View) → T (view? v) → document_view (document_of v) ≡ v
unfolding document_of document_view
view_back v h =
    let parts = view_parts v h in
    let answers = (records_forth v.answers parts.2).2 in
    let authority = (records_forth v.authority parts.3).2 in
    let additional = (items_forth v.header.rcode parts.0.rcode v.additional parts.4).2 in
    λ i. record {
      header = v.header;
      questions = v.questions;
      answers = answers i;
      authority = authority i;
      additional = additional i;
    }

-- a valid view's document means that view
pub meaning-document : (v : View) → T (view? v) → meaning (document_of v) ≡ some v
unfolding meaning
meaning-document v h =
    let d = document_of v in
    let e = view_back v h in
    rw (is_true (agrees? d && view? (document_view d))
    (both (agrees? d) (view? (document_view d)) (view_agrees v h) (subst (λ (w : View). T (view? w)) (sym e) h)))
    (ap some e)

-- a document that agrees with its view is that view's
document_back : (d : Document) → DocumentIn d → T (agrees? d) → document_of (document_view d) ≡ d
unfolding document_of document_view agrees? counts?
document_back d i h =
    let rcode = d.header.rcode in
    let q = eqb d.qdcount (length d.questions) in
    let a = eqb d.ancount (length d.answers) in
    let n = eqb d.nscount (length d.authority) in
    let r = eqb d.arcount (length d.additional) in
    let tests = counts? d && all record_item? d.answers in
    let t = and_left (tests && all record_item? d.authority) (all (item? rcode) d.additional) h in
    let u = and_left tests (all record_item? d.authority) t in
    let c = and_left (counts? d) (all record_item? d.answers) u in
    let c' = and_left (q && a && n) r c in
    let c'' = and_left (q && a) n c' in
    let qd = sym (eqb→eq d.qdcount (length d.questions) (and_left q a c'')) in
    let an = length-map d.answers item_record ∙ sym (eqb→eq d.ancount (length d.answers) (and_right q a c'')) in
    let ns = length-map d.authority item_record
    ∙ sym (eqb→eq d.nscount (length d.authority) (and_right (q && a) n c')) in
    let ar = length-map d.additional item_additional
    ∙ sym (eqb→eq d.arcount (length d.additional) (and_right (q && a && n) r c)) in
    let records = all_back record_item item_record RecordIn record? record_item? record_back in
    let answers = records d.answers i.1.1.0 (and_right (counts? d) (all record_item? d.answers) u) in
    let authority = records d.authority i.1.1.1.0 (and_right tests (all record_item? d.authority) t) in
    let additional = all_back (item rcode) item_additional ItemIn (additional? rcode) (item? rcode) (item_back rcode)
    d.additional i.1.1.1.1
    (and_right (tests && all record_item? d.authority) (all (item? rcode) d.additional) h) in
    λ i. record {
      header = d.header;
      qdcount = qd i;
      ancount = an i;
      nscount = ns i;
      arcount = ar i;
      questions = d.questions;
      answers = answers i;
      authority = authority i;
      additional = additional i;
    }

-- what a document means is valid, and the document is its
pub document-meaning : (d : Document) (v : View) → DocumentIn d → meaning d ≡ some v → (document_of v ≡ d) × T (view? v)
unfolding meaning
document-meaning d v i e =
    one_some (λ (w : View). (document_of w ≡ d) × T (view? w)) (agrees? d && view? (document_view d)) (document_view d) v
    (λ h. (
      document_back d i (and_left (agrees? d) (view? (document_view d)) h),
      and_right (agrees? d) (view? (document_view d)) h,
    )) e
