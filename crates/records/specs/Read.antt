-- Reading questions and records, left to right, to the first fault.
use Rattle.std.specs.Prelude.{true, cond, List, [], ◌∷◌, ℕ, zero, suc, ◌+◌, leb, ltb, length}
use Rattle.std.proofs.Math.Option.{Option, none, some}
use Rattle.octets.specs.Fields.{be16_at, be32_at}
use Rattle.names.specs.Name.{Name, cut, Fault}
use Rattle.names.specs.Walk.{message, Named, named, faulty, name_at}
use Rattle.records.specs.Layout.{Laid, laid, misfit, rdata_at}
use Rattle.records.specs.Message.{Question, Record}

-- an entry and the offset after it, or its first fault
pub data Entry (A : Type 0) : Type 0 where
  entry : A → ℕ → Entry A
  bad : Fault → Entry A

-- a field that doesn't fit runs past the end
abbrev pub past_end : {A : Type 0} → ℕ → Entry A
past_end at = bad (record { kind = cut; octet = at })

-- fields of these widths from an offset on: the offset of the first that runs past the message's end, if one does
unfoldable pub first_cut : List ℕ → ℕ → List ℕ → Option ℕ
first_cut s at [] = none
first_cut s at (width ∷ widths) = let later = first_cut s (at + width) widths in
    cond (leb (at + width) (length s)) later (some at)

-- a name, then what its fields, at the offset after it, give; a fault met in the name is at once the answer
abbrev pub with_name_lem : {A : Type 0} → Named → (Name → ℕ → Entry A) → Entry A
with_name_lem (named name next) f = f name next
with_name_lem (faulty fault) f = bad fault

abbrev pub with_fields_lem : {A : Type 0} → Option ℕ → Entry A → Entry A
with_fields_lem none e = e
with_fields_lem (some at) e = past_end at

-- RDATA makes the record; a fault met in it is at once the answer
abbrev pub filled : (List ℕ → Record) → ℕ → Laid → Entry Record
filled made next (laid octets) = entry (made octets) next
filled made next (misfit fault) = bad fault

-- TYPE and CLASS after the name
unfoldable pub question_at : List ℕ → ℕ → Entry Question
question_at s at = with_name_lem (name_at s message at) λ name next.
    with_fields_lem (first_cut s next (2 ∷ 2 ∷ []))
    (entry (record { name = name; type = be16_at s next; class = be16_at s (next + 2) }) (next + 4))

-- TYPE, CLASS, TTL, RDLENGTH after the name, then RDATA; RDATA past the message is found before anything inside it
unfoldable pub record_at : List ℕ → ℕ → Entry Record
record_at s at = with_name_lem (name_at s message at) λ name next.
    let type = be16_at s next in
    let size = be16_at s (next + 8) in
    let made : List ℕ → Record = λ octets.
    record { name = name; type = type; class = be16_at s (next + 2); ttl = be32_at s (next + 4); rdata = octets } in
    with_fields_lem (first_cut s next (2 ∷ 2 ∷ 4 ∷ 2 ∷ []))
    (cond (ltb (length s) (next + 10 + size)) (past_end (next + 10))
    (filled made (next + 10 + size) (rdata_at true s type (next + 10) size)))

-- where reading came to: an offset, or the faulty entry's offset with its fault
pub data Reached : Type 0 where
  reached : ℕ → Reached
  stopped : ℕ → Fault → Reached

-- the entries read before the first fault, and where reading came to
pub record Section (A : Type 0) : Type 0 where
  pub entries : List A
  pub end : Reached

abbrev pub add : {A : Type 0} → A → Section A → Section A
add a section = record { entries = a ∷ section.entries; end = section.end }

-- n entries from an offset on
unfoldable pub section_at : {A : Type 0} → (List ℕ → ℕ → Entry A) → List ℕ → ℕ → ℕ → Section A
section_at read s zero at = record { entries = []; end = reached at }
section_at read s (suc n) at = elim (read s at) [
  | entry a next ↦ add a (section_at read s n next)
  | bad fault ↦ record { entries = []; end = stopped at fault }
]

-- the next section, from where the one before it came to
unfoldable pub section_from : {A : Type 0} → (List ℕ → ℕ → Entry A) → List ℕ → ℕ → Reached → Section A
section_from read s n (reached at) = section_at read s n at
section_from read s n (stopped at fault) = record { entries = []; end = stopped at fault }
