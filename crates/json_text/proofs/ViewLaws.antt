-- Laws of views: a valid message and its view tell each other, and the message's limit of size is the only one that
-- counts.
use mathlib.Core.Path.{◌≡◌, refl, sym, ◌∙◌, ap, ap₂}
use mathlib.Core.Bool.{Bool, true, false, not, ◌&&◌, cond}
use mathlib.Core.Option.{Option, none, some}
use mathlib.Core.List.{List, [], ◌∷◌, ◌++◌, map}
use Prim.Native.Nat.{ℕ, suc, ◌+◌, ◌≤◌}
use native.Mathlib.Omega.{arith}
use borrow.Author.Tests.{eqb-true}
use lib.Dec.{T, eqb, leb→le, le→leb}
use lib.ListN.{length, length-append}
use Rattle.octets.specs.Lists.{all, All, count, u16?, each, present?}
use Rattle.octets.specs.Bits.{both, and_left, and_right, all→All}
use Rattle.octets.specs.Fields.{be16, be32}
use Rattle.names.specs.Name.{name_form}
use Rattle.records.specs.Message.{Header, Question, Record, Message, header_form, question_form, record_form, form}
use Rattle.records.specs.Message.{header?, question?, record?, section?, valid?, opt?}
use Rattle.options.specs.Options.{EdnsOption}
use Rattle.edns.specs.Edns.{option_form, Edns, edns_of, edns_record, small?, small_option?}
use Rattle.edns.specs.EdnsLaws.{option_long, edns_back, edns_record_lem, edns_valid}
use Rattle.json_text.specs.View.{Additional, ordinary, edns, View, recognised, additional_of, view_of, record_of}
use Rattle.json_text.specs.View.{message_of, additional?, opt_entry?, settled?, additionals?, view?}
use Rattle.json_text.specs.Limits.{small_rdata?, small_options?, within?}

-- the record of a valid entry is valid
record_valid : (rcode : ℕ) (a : Additional) → T (additional? rcode a) → T (record? (record_of a))
unfolding additional? record_of
record_valid rcode (ordinary r) h = h
record_valid rcode (edns e) h = edns_valid rcode e h

-- the entry of a record, by whether it is the only one of TYPE 41
abbrev pub entry_of : ℕ → Bool → Record → Additional
entry_of rcode true r = recognised rcode r
entry_of rcode false r = ordinary r

-- what holds of the entry of a valid record, where n have TYPE 41
record Entered (rcode n : ℕ) (r : Record) (a : Additional) : Type 0 where
  same : record_of a ≡ r
  valid : T (additional? rcode a)
  small : T (small_options? a)
  counted : opt_entry? a ≡ opt? r
  settled : T (settled? rcode n a)

entered : (rcode n : ℕ) (b : Bool) → eqb n 1 ≡ b → (r : Record) → T (record? r) → Entered rcode n r (entry_of rcode b r)
unfolding record_of additional? small_options? opt_entry? settled?
entered rcode n b c r h = go b c (opt? r) refl (edns_of rcode r) refl
  where
    plain : T (not (opt? r && eqb n 1 && present? (edns_of rcode r))) → Entered rcode n r (ordinary r)
    plain s = record { same = refl; valid = h; small = tt; counted = refl; settled = s }

    go : (b : Bool) → eqb n 1 ≡ b → (t : Bool) → opt? r ≡ t → (o : Option Edns) → edns_of rcode r ≡ o
        → Entered rcode n r (entry_of rcode b r)
    go true c true p none q = rw (p, q) (plain (rw (p, c, q) tt))
    go true c true p (some e) q =
        let (x, y, z) = edns_record_lem rcode r e h (eqb-true r.type 41 p) q in
        rw (p, q) (record { same = x; valid = y; small = z; counted = sym p; settled = rw c tt })
    go true c false p o q = rw p (plain (rw p tt))
    go false c true p o q = plain (rw (p, c) tt)
    go false c false p o q = plain (rw p tt)

-- ---- sections
-- what becomes of every element of a list
module _ {A B : Type 0} (f : A → B) where
  pub map-long : (l : List A) → length (map f l) ≡ length l
  map-long [] = refl
  map-long (a ∷ l) = ap suc (map-long l)

  module _ {P : A → Type 0} where
    map-all : (q : B → Bool) → ((a : A) → P a → T (q (f a))) → (l : List A) → All P l → T (all q (map f l))
    map-all q h [] k = tt
    map-all q h (a ∷ l) k = both (q (f a)) (all q (map f l)) (h a k.0) (map-all q h l k.1)

    map-count : (p : A → Bool) (q : B → Bool) → ((a : A) → P a → q (f a) ≡ p a) → (l : List A) → All P l
        → count q (map f l) ≡ count p l
    map-count p q h [] k = refl
    map-count p q h (a ∷ l) k = ap₂ (λ b n. cond b (1 + n) n) (h a k.0) (map-count p q h l k.1)

    map_back : (g : B → A) → ((a : A) → P a → g (f a) ≡ a) → (l : List A) → All P l → map g (map f l) ≡ l
    map_back g h [] k = refl
    map_back g h (a ∷ l) k = ap₂ ◌∷◌ (h a k.0) (map_back g h l k.1)

all_both : {A : Type 0} (P Q : A → Type 0) (l : List A) → All P l → All Q l → All (λ a. P a × Q a) l
all_both P Q [] h k = tt
all_both P Q (a ∷ l) h k = ((h.0, k.0), all_both P Q l h.1 k.1)

-- the entries of a section of valid records
pub additional_map : (rcode : ℕ) (l : List Record) → additional_of rcode l ≡ map (entry_of rcode (eqb (count opt? l) 1)) l
unfolding additional_of
additional_map rcode l = go (eqb (count opt? l) 1)
  where
    go : (b : Bool) → cond b (map (recognised rcode) l) (map ordinary l) ≡ map (entry_of rcode b) l
    go true = refl
    go false = refl

-- every record of a valid section
records_valid : (l : List Record) → T (section? record? l) → All (λ r. T (record? r)) l
records_valid l h = all→All record? l (and_right (u16? (length l)) (all record? l) h)

module _ (rcode : ℕ) (l : List Record) (h : T (section? record? l)) where
  -- the entry of each of them
  an_entry : (r : Record) → T (record? r) → Entered rcode (count opt? l) r (entry_of rcode (eqb (count opt? l) 1) r)
  an_entry = entered rcode (count opt? l) (eqb (count opt? l) 1) refl

  section_back : map record_of (additional_of rcode l) ≡ l
  section_back = ap (map record_of) (additional_map rcode l)
      ∙ map_back (entry_of rcode (eqb (count opt? l) 1)) record_of (λ r k. (an_entry r k).same) l (records_valid l h)

  section_small : T (all small_options? (additional_of rcode l))
  section_small = rw (additional_map rcode l)
      (map-all (entry_of rcode (eqb (count opt? l) 1)) small_options? (λ r k. (an_entry r k).small) l (records_valid l h))

  section_view : T (additionals? rcode (additional_of rcode l))
  unfolding additionals?
  section_view =
      let f = entry_of rcode (eqb (count opt? l) 1) in
      let m = map f l in
      let records = records_valid l h in
      let long : T (u16? (length m)) = rw (map-long f l) (and_left (u16? (length l)) (all record? l) h) in
      let valid : T (all (additional? rcode) m) =
      map-all f (additional? rcode) (λ r k. (an_entry r k).valid) l records in
      let settled : T (all (settled? rcode (count opt_entry? m)) m) =
      rw (map-count f opt? opt_entry? (λ r k. (an_entry r k).counted) l records)
      (map-all f (settled? rcode (count opt? l)) (λ r k. (an_entry r k).settled) l records) in
      rw (additional_map rcode l) (both (section? (additional? rcode) m) (all (settled? rcode (count opt_entry? m)) m)
      (both (u16? (length m)) (all (additional? rcode) m) long valid) settled)

-- the record of an entry has TYPE 41 just if the entry says so
opt_counted : (a : Additional) → opt? (record_of a) ≡ opt_entry? a
unfolding record_of edns_record opt_entry?
opt_counted (ordinary r) = refl
opt_counted (edns e) = refl

-- an entry is that of its record, where n have TYPE 41
entry_back : (rcode n : ℕ) (b : Bool) → eqb n 1 ≡ b → (a : Additional) → T (additional? rcode a)
    → T (settled? rcode n a) → T (small_options? a)
    → entry_of rcode b (record_of a) ≡ a
unfolding record_of additional? settled? small_options? edns_record
entry_back rcode n false c (ordinary r) h s k = refl
entry_back rcode n true c (ordinary r) h s k = go (opt? r) refl (edns_of rcode r) refl
  where
    go : (t : Bool) → opt? r ≡ t → (o : Option Edns) → edns_of rcode r ≡ o → recognised rcode r ≡ ordinary r
    go true p none q = rw (p, q)
    go true p (some e) q = absurd (rw (p, c, q) at s)
    go false p o q = rw p
entry_back rcode n true c (edns e) h s k = rw (edns_back rcode e h k)
entry_back rcode n false c (edns e) h s k = absurd (rw c at s)

module _ (rcode : ℕ) (l : List Additional) (h : T (additionals? rcode l)) where
  entries_valid : T (section? (additional? rcode) l)
  unfolding additionals?
  entries_valid = and_left (section? (additional? rcode) l) (all (settled? rcode (count opt_entry? l)) l) h

  entries_settled : T (all (settled? rcode (count opt_entry? l)) l)
  unfolding additionals?
  entries_settled = and_right (section? (additional? rcode) l) (all (settled? rcode (count opt_entry? l)) l) h

  each_valid : All (λ a. T (additional? rcode a)) l
  each_valid = all→All (additional? rcode) l (and_right (u16? (length l)) (all (additional? rcode) l) entries_valid)

  entries_back : T (all small_options? l) → additional_of rcode (map record_of l) ≡ l
  entries_back k =
      let n = count opt_entry? l in
      let settled = all→All (settled? rcode n) l entries_settled in
      let small = all→All small_options? l k in
      let P : Additional → Type 0 = λ a. T (additional? rcode a) in
      let Q : Additional → Type 0 = λ a. T (settled? rcode n a) in
      let R : Additional → Type 0 = λ a. T (small_options? a) in
      let known = all_both P (λ a. Q a × R a) l each_valid (all_both Q R l settled small) in
      let counted : count opt? (map record_of l) ≡ n =
      map-count record_of opt_entry? opt? (λ a t. opt_counted a) l each_valid in
      additional_map rcode (map record_of l)
      ∙ ap (λ i. map (entry_of rcode (eqb i 1)) (map record_of l)) counted
      ∙ map_back record_of (entry_of rcode (eqb n 1))
      (λ a t. entry_back rcode n (eqb n 1) refl a t.0 t.1.0 t.1.1) l known

  entries_section : T (section? record? (map record_of l))
  entries_section =
      let m = map record_of l in
      let long : T (u16? (length m)) =
      rw (map-long record_of l) (and_left (u16? (length l)) (all (additional? rcode) l) entries_valid) in
      both (u16? (length m)) (all record? m) long (map-all record_of record? (record_valid rcode) l each_valid)

-- ---- messages and views
-- the parts that a message and its view share
abbrev shared? : Header → List Question → List Record → List Record → Bool
shared? header questions answers authority = header? header && section? question? questions && section? record? answers
    && section? record? authority

valid_additional : (m : Message) → T (valid? m) → T (section? record? m.additional)
unfolding valid?
valid_additional m h =
    and_right (shared? m.header m.questions m.answers m.authority) (section? record? m.additional) h

-- a valid message is determined by its view
pub message_view : (m : Message) → T (valid? m) → message_of (view_of m) ≡ m
unfolding message_of view_of
message_view m h =
    let same = section_back m.header.rcode m.additional (valid_additional m h) in
    λ i. record {
      header = m.header;
      questions = m.questions;
      answers = m.answers;
      authority = m.authority;
      additional = same i;
    }

-- the view of a valid message is valid
pub view_valid : (m : Message) → T (valid? m) → T (view? (view_of m))
unfolding view? view_of valid?
view_valid m h =
    let s = shared? m.header m.questions m.answers m.authority in
    both s (additionals? m.header.rcode (additional_of m.header.rcode m.additional))
    (and_left s (section? record? m.additional) h)
    (section_view m.header.rcode m.additional (valid_additional m h))

-- and its options are within the limit
pub view_small : (m : Message) → T (valid? m) → T (all small_options? (view_of m).additional)
unfolding view_of
view_small m h = section_small m.header.rcode m.additional (valid_additional m h)

-- a valid view's additional section
pub view_additional : (v : View) → T (view? v) → T (additionals? v.header.rcode v.additional)
unfolding view?
view_additional v h =
    and_right (shared? v.header v.questions v.answers v.authority)
    (additionals? v.header.rcode v.additional) h

-- a valid view is determined by its message
pub view_message : (v : View) → T (view? v) → T (all small_options? v.additional) → view_of (message_of v) ≡ v
unfolding message_of view_of
view_message v h k =
    let same = entries_back v.header.rcode v.additional (view_additional v h) k in
    λ i. record {
      header = v.header;
      questions = v.questions;
      answers = v.answers;
      authority = v.authority;
      additional = same i;
    }

-- the message of a valid view is valid, whatever the sizes
pub message_valid : (v : View) → T (view? v) → T (valid? (message_of v))
unfolding view? message_of valid?
message_valid v h =
    let s = shared? v.header v.questions v.answers v.authority in
    both s (section? record? (map record_of v.additional))
    (and_left s (additionals? v.header.rcode v.additional) h)
    (entries_section v.header.rcode v.additional (view_additional v h))

-- ---- limits of size
-- a test that forms up to a length pass, where the forms of a list are no longer than that
forms-all : {A : Type 0} (f : A → List ℕ) (p : A → Bool) (n : ℕ) → ((a : A) → length (f a) ≤ n → T (p a)) → (l : List A)
    → length (each f l) ≤ n → T (all p l)
unfolding each
forms-all f p n h [] k = tt
forms-all f p n h (a ∷ l) k =
    let long = length-append (f a) (each f l) in
    both (p a) (all p l) (h a (omega arith)) (forms-all f p n h l (omega arith))

map_tested : {A B : Type 0} (f : A → B) (p : B → Bool) (q : A → Bool) → ((a : A) → T (p (f a)) → T (q a)) → (l : List A)
    → T (all p (map f l)) → T (all q l)
map_tested f p q h [] k = tt
map_tested f p q h (a ∷ l) k =
    both (q a) (all q l) (h a (and_left (p (f a)) (all p (map f l)) k))
    (map_tested f p q h l (and_right (p (f a)) (all p (map f l)) k))

-- RDATA is a part of its record's form
rdata_part : (r : Record) → length (record_form r) ≤ 65535 → T (small_rdata? r)
unfolding record_form small_rdata?
rdata_part r h =
    let long = length-append (name_form r.name ++ be16 r.type ++ be16 r.class ++ be32 r.ttl
    ++ be16 (length r.rdata)) r.rdata in
    le→leb (length r.rdata) 65535 (omega arith)

-- an option's value is a part of its form, and that of RDATA
value-part : (o : EdnsOption) → length (option_form o) ≤ 65535 → T (small_option? o)
unfolding small_option?
value-part o h = le→leb (length o.value) 65535 (omega (arith, option_long o))

options_part : (a : Additional) → T (small_rdata? (record_of a)) → T (small_options? a)
unfolding record_of edns_record small_rdata? small_options?
options_part (ordinary r) h = tt
options_part (edns e) h =
    forms-all option_form small_option? 65535 value-part e.options
    (leb→le (length (each option_form e.options)) 65535 h)

-- a message within the limit has all its parts within their limits
pub small_form : (v : View) → T (small? (form (message_of v))) → T (within? v)
unfolding within? form message_of
small_form v h =
    let m = message_of v in
    let a = each record_form m.answers in
    let b = each record_form m.authority in
    let c = each record_form m.additional in
    let front = header_form m ++ each question_form m.questions in
    let long : length (form m) ≡ length front + length a + length b + length c =
    omega (arith, length-append (front ++ a ++ b) c, length-append (front ++ a) b, length-append front a) in
    let limit : length (form m) ≤ 65535 = leb→le (length (form m)) 65535 h in
    let answers = forms-all record_form small_rdata? 65535 rdata_part m.answers (omega arith) in
    let authority = forms-all record_form small_rdata? 65535 rdata_part m.authority (omega arith) in
    let additional = forms-all record_form small_rdata? 65535 rdata_part m.additional (omega arith) in
    let options = map_tested record_of small_rdata? small_options? options_part v.additional additional in
    let t2 = all small_rdata? m.answers && all small_rdata? m.authority in
    let t3 = t2 && all small_rdata? m.additional in
    both (t3 && all small_options? v.additional) (small? (form m))
    (both t3 (all small_options? v.additional)
    (both t2 (all small_rdata? m.additional)
    (both (all small_rdata? m.answers) (all small_rdata? m.authority) answers authority) additional) options)
    h

-- a view within its limits has a message within the limit, and options within theirs
pub within_small : (v : View) → T (within? v) → T (small? (form (message_of v))) × T (all small_options? v.additional)
unfolding within?
within_small v h =
    let m = message_of v in
    let t3 = all small_rdata? m.answers && all small_rdata? m.authority && all small_rdata? m.additional in
    let t4 = t3 && all small_options? v.additional in (
      and_right t4 (small? (form m)) h,
      and_right t3 (all small_options? v.additional) (and_left t4 (small? (form m)) h),
    )
