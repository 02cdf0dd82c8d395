-- What the code answers, beside the definitions, and the bounds of it.
use Rattle.std.specs.Prelude.{List, ℕ, ◌+◌, ◌≤◌, ◌<◌, Result, Ok, Err}
use Rattle.names.specs.Name.{name_form}
use Rattle.names.specs.Answer.{fault_of}
use Rattle.names.specs.declared.Fault.{Fault}
use Rattle.records.specs.Layout.{fixed, name}
use Rattle.records.specs.Layout as layout
use Rattle.records.specs.Message as message
use Rattle.records.specs.Read.{Entry, entry, bad}
use Rattle.records.specs.RecordLaws.{sum}
use Rattle.records.specs.Parts.{RecordHead}
use Rattle.records.specs.declared.Question.{Question}
use Rattle.records.specs.declared.Record.{Record}
use Rattle.records.specs.declared.Piece.{Piece}
use Rattle.records.specs.declared.Piece.TheVariants as piece

-- a name that is read ends after its start, and fields of these widths fit after it
pub record Begins (next at : ℕ) (widths : List ℕ) (end : ℕ) : Type 0 where
  pub later : at < next
  pub room : next + sum widths ≤ end

-- the answer of a reader, by what it makes of an entry and the offset after it
abbrev pub read_as : {A B : Type 0} → (A → ℕ → B) → Entry A → Result B Fault
read_as f (entry a next) = Ok (f a next)
read_as f (bad fault) = Err (fault_of fault)

-- ---- questions
abbrev pub question_fields : message.Question → ℕ → Question
question_fields q next = record { name = name_form q.name; rtype = q.type; class = q.class; next = next }

abbrev pub question_read : Entry message.Question → Result Question Fault
question_read e = read_as question_fields e

-- the bounds of a question, read from an offset on
pub record Asks (q : Question) (at end : ℕ) : Type 0 where
  pub kind : q.rtype < 65536
  pub class : q.class < 65536
  pub after : at + 5 ≤ q.next
  pub inside : q.next ≤ end

-- ---- records without what is inside RDATA
abbrev pub head_read : RecordHead → Record
head_read h = record {
  owner = name_form h.name;
  rtype = h.type;
  class = h.class;
  ttl = h.ttl;
  rdata = h.rdata;
  rdlength = h.rdlength;
}

abbrev pub record_read : Entry RecordHead → Result Record Fault
record_read e = read_as (λ h next. head_read h) e

-- the bounds of a record, read from an offset on
pub record Heads (r : Record) (at end : ℕ) : Type 0 where
  pub kind : r.rtype < 65536
  pub class : r.class < 65536
  pub after : at + 11 ≤ r.rdata
  pub inside : r.rdata + r.rdlength ≤ end
  pub short : r.rdlength < 65536

-- ---- RDATA's layouts
-- the definition's piece for the code's
abbrev pub piece_of : Piece → layout.Piece
piece_of (piece.Fixed n) = fixed n
piece_of piece.Name = name
