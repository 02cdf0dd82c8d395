-- The readers' ways through the code: a name and its fields, a question, a record's head.
use mathlib.Core.Path.{◌≡◌, refl, sym, ap, ◌∙◌, subst}
use mathlib.Core.Option.{none, some}
use mathlib.Core.List.{List, [], ◌∷◌}
use Prim.Native.Nat.{ℕ, ◌+◌, ◌≤◌, ◌<◌}
use native.Mathlib.Numerals.{add-one}
use native.Mathlib.Omega.{arith}
use borrow.Author.Tests.{le-leb, lt-leb, le-ltb, lt-ltb}
use lib.ListN.{length, get_or, drop, drop_of_length-le}
use lib.Seq.{drop-cons}
use Rattle.std.specs.Prelude.{Result, Ok, Err}
use Rattle.octets.specs.Fields.{be16_at, be32_at}
use Rattle.names.specs.Name.{Name, name_form}
use Rattle.names.specs.Name as name
use Rattle.names.specs.Walk.{message, named, faulty, name_at}
use Rattle.names.specs.Walk as walk
use Rattle.names.specs.NameLaws.{read_sized}
use Rattle.names.specs.Answer.{fault_of, name_read}
use Rattle.names.specs.declared.Fault.{Fault}
use Rattle.names.specs.declared.Fault.TheVariants.{Cut}
use Rattle.records.specs.Message.{Question}
use Rattle.records.specs.Read.{Entry, entry, first_cut, with_name_lem, question_at}
use Rattle.records.specs.RecordLaws.{sum}
use Rattle.records.specs.Parts.{begun, begun_at, question_begun, headed, record_head_at}
use Rattle.records.specs.Answer.{Begins, question_read, record_read}
use Rattle.records.specs.declared.Record.{Record}

-- ---- what the code's answer for a name says
-- the parts of an answer
abbrev ok_in : List ℕ × ℕ → Result (List ℕ × ℕ) Fault → List ℕ × ℕ
ok_in d (Ok r) = r
ok_in d (Err f) = d

abbrev fault_in : Fault → Result (List ℕ × ℕ) Fault → Fault
fault_in d (Ok r) = d
fault_in d (Err f) = f

-- a name was read: what holds of each name holds
pub named_case : (P : List ℕ → ℕ → walk.Named → Type 0) → ((n : Name) (next : ℕ) → P (name_form n) next (named n next))
    → (w : walk.Named) {form : List ℕ} {next : ℕ} → Ok (form, next) ≡ name_read w → P form next w
named_case P h (named n i) {form} {next} e =
    subst (λ (r : List ℕ × ℕ). P r.0 r.1 (named n i)) (sym (ap (ok_in (form, next)) e)) (h n i)
named_case P h (faulty fault) e = cc

-- a fault was met: what holds of each fault holds
pub faulty_case : (P : Fault → walk.Named → Type 0) → ((fault : name.Fault) → P (fault_of fault) (faulty fault))
    → (w : walk.Named) {f : Fault} → Err f ≡ name_read w → P f w
faulty_case P h (named n i) e = cc
faulty_case P h (faulty fault) {f} e = subst (λ (g : Fault). P g (faulty fault)) (sym (ap (fault_in f) e)) (h fault)

-- ---- fields after a name
-- the fields before the i-th fit, and end at `place`
pub record FieldsLoop (s widths : List ℕ) (next place i : ℕ) : Type 0 where
  pub same : first_cut s next widths ≡ first_cut s place (drop i widths)
  pub long : place + sum (drop i widths) ≡ next + sum widths

pub fields-start : (s widths : List ℕ) (next : ℕ) → FieldsLoop s widths next next 0
fields-start s widths next = record { same = refl; long = refl }

module _ {s widths : List ℕ} {next place i : ℕ} (f : FieldsLoop s widths next place i) where
  -- the i-th field and those after it
  first : i < length widths → drop i widths ≡ get_or widths i 0 ∷ drop (i + 1) widths
  first h = rw (add-one, drop-cons widths i 0)

  -- it fits
  pub fields_more : {width : ℕ} → i < length widths → width ≡ get_or widths i 0 → place + width ≤ length s
      → FieldsLoop s widths next (place + width) (i + 1)
  unfolding first_cut
  fields_more {width} h e k =
      record {
        same = f.same ∙ rw (first h, ← e, le-leb (place + width) (length s) k);
        long = let p : sum (drop i widths) ≡ width + sum (drop (i + 1) widths) =
            rw (first h, ← e) in omega (arith, f.long);
      }

  -- it does not
  fields_cut : {width : ℕ} → i < length widths → width ≡ get_or widths i 0 → length s < place + width
      → first_cut s next widths ≡ some place
  unfolding first_cut
  fields_cut {width} h e k = f.same ∙ rw (first h, ← e, lt-leb (place + width) (length s) k)

  -- there is no i-th field
  fields_end : length widths ≤ i → (first_cut s next widths ≡ none) × (place ≡ next + sum widths)
  unfolding first_cut
  fields_end h = (
    f.same ∙ rw (drop_of_length-le widths h),
    let p : sum (drop i widths) ≡ 0 = rw (drop_of_length-le widths h) in omega (arith, f.long),
  )

-- ---- a name with fields after it
module _ (s widths : List ℕ) (at : ℕ) where
  pub begun_faulty : {f : Fault} → Err f ≡ name_read (name_at s message at) → Err f ≡ name_read (begun_at s at widths)
  unfolding begun_at
  begun_faulty e = faulty_case (λ f w. Err f ≡ name_read (begun s widths w)) (λ fault. refl) _ e

  module _ {form : List ℕ} {next : ℕ} (e : Ok (form, next) ≡ name_read (name_at s message at)) where
    -- it ends after its start, within the message
    name_ends : (at < next) × (next ≤ length s)
    name_ends =
        named_case (λ form next w. name_at s message at ≡ w → (at < next) × (next ≤ length s))
        (λ n next q. let k = read_sized s message at at n next (omega arith) q in (k.2, k.3)) _ e refl

    pub name-within : next ≤ length s
    name-within = name_ends.1

    pub begun_cut : {place i width : ℕ} → FieldsLoop s widths next place i → i < length widths → width ≡ get_or widths i 0
        → length s < place + width
        → Err (Cut place) ≡ name_read (begun_at s at widths)
    unfolding begun_at
    begun_cut {place} f h k l =
        named_case (λ form next w. first_cut s next widths ≡ some place → Err (Cut place) ≡ name_read (begun s widths w))
        (λ n next q. rw q) _ e (fields_cut f h k l)

    pub begun-whole : {place i : ℕ} → FieldsLoop s widths next place i → length widths ≤ i
        → Ok (form, next) ≡ name_read (begun_at s at widths)
    unfolding begun_at
    begun-whole f h =
        named_case (λ form next w. first_cut s next widths ≡ none → Ok (form, next) ≡ name_read (begun s widths w))
        (λ n next q. rw q) _ e (fields_end f h).0

    pub begun_fits : {place i : ℕ} → FieldsLoop s widths next place i → length widths ≤ i → place ≤ length s
        → Begins next at widths (length s)
    begun_fits f h k = let (a, b) = name_ends in
        record { later = a; room = omega (arith, (fields_end f h).1) }

-- ---- questions
-- the question by its name
abbrev asked : List ℕ → Name → ℕ → Entry Question
asked s n next = entry (record { name = n; type = be16_at s next; class = be16_at s (next + 2) }) (next + 4)

module _ (s : List ℕ) (at : ℕ) where
  pub question_faulty : {f : Fault} → Err f ≡ name_read (begun_at s at (2 ∷ 2 ∷ []))
      → Err f ≡ question_read (question_at s at)
  question_faulty e =
      faulty_case (λ f w. Err f ≡ question_read (with_name_lem w (asked s))) (λ fault. refl) _ e
      ∙ ap question_read (sym (question_begun s at))

  pub question_whole : {form : List ℕ} {next rtype class : ℕ}
      → Ok (form, next) ≡ name_read (begun_at s at (2 ∷ 2 ∷ [])) → rtype ≡ be16_at s next → class ≡ be16_at s (next + 2)
      → Ok (record { name = form; rtype = rtype; class = class; next = next + 4 }) ≡ question_read (question_at s at)
  question_whole {rtype = rtype} {class = class} e k c =
      named_case (λ form next w. rtype ≡ be16_at s next → class ≡ be16_at s (next + 2)
      → Ok (record { name = form; rtype = rtype; class = class; next = next + 4 }) ≡ question_read
      (with_name_lem w (asked s)))
      (λ n next k c. rw (k, c)) _ e k c
      ∙ ap question_read (sym (question_begun s at))

-- ---- heads of records
-- the record by its owner's form, the offset after the owner, and the fields
abbrev pub made : List ℕ → ℕ → ℕ → ℕ → ℕ → ℕ → Record
made form next rdlength rtype class ttl =
    record { owner = form; rtype = rtype; class = class; ttl = ttl; rdata = next + 10; rdlength = rdlength }

module _ (s : List ℕ) (at : ℕ) where
  pub head_faulty : {f : Fault} → Err f ≡ name_read (begun_at s at (2 ∷ 2 ∷ 4 ∷ 2 ∷ []))
      → Err f ≡ record_read (record_head_at s at)
  unfolding record_head_at
  head_faulty e = faulty_case (λ f w. Err f ≡ record_read (with_name_lem w (headed s))) (λ fault. refl) _ e

  module _ {form : List ℕ} {next rdlength : ℕ} (e : Ok (form, next) ≡ name_read (begun_at s at (2 ∷ 2 ∷ 4 ∷ 2 ∷ [])))
      (l : rdlength ≡ be16_at s (next + 8)) where
    -- RDATA is past the message's end
    pub head_cut : length s < next + 10 + rdlength → Err (Cut (next + 10)) ≡ record_read (record_head_at s at)
    unfolding record_head_at
    head_cut h =
        named_case (λ form next w. rdlength ≡ be16_at s (next + 8) → length s < next + 10 + rdlength
        → Err (Cut (next + 10)) ≡ record_read (with_name_lem w (headed s)))
        (λ n next l h. rw (← l, lt-ltb (length s) (next + 10 + rdlength) h)) _ e l h

    pub head-whole : {rtype class ttl : ℕ} → next + 10 + rdlength ≤ length s → rtype ≡ be16_at s next
        → class ≡ be16_at s (next + 2) → ttl ≡ be32_at s (next + 4)
        → Ok (made form next rdlength rtype class ttl) ≡ record_read (record_head_at s at)
    unfolding record_head_at
    head-whole {rtype} {class} {ttl} h k c t =
        named_case (λ form next w. rdlength ≡ be16_at s (next + 8) → next + 10 + rdlength ≤ length s
        → rtype ≡ be16_at s next → class ≡ be16_at s (next + 2) → ttl ≡ be32_at s (next + 4)
        → Ok (made form next rdlength rtype class ttl) ≡ record_read (with_name_lem w (headed s)))
        (λ n next l h k c t. rw (← l, le-ltb (length s) (next + 10 + rdlength) h, k, c, t)) _ e l h k c t
