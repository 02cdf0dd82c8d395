-- A message as the text shows it: its EDNS record recognised, with its options as a list. A view has no limit on the
-- size of RDATA, of an option's value or of the message; the record of an EDNS element is recognised again where each
-- value is within its 65,535 octets.
use Rattle.std.specs.Prelude.{Bool, true, not, ◌&&◌, cond, List, map, ℕ, eqb}
use Rattle.std.proofs.Math.Option.{Option, none, some}
use Rattle.octets.specs.Lists.{all, count, present?}
use Rattle.records.specs.Message.{Header, Question, Record, Message, header?, question?, record?, section?, opt?}
use Rattle.edns.specs.Edns.{Edns, edns_of, edns_record, edns?}

-- ---- views
-- an entry of the additional section
pub data Additional : Type 0 where
  ordinary : Record → Additional
  edns : Edns → Additional

pub record View : Type 0 where
  pub header : Header
  pub questions : List Question
  pub answers : List Record
  pub authority : List Record
  pub additional : List Additional

-- the element, if there is one, else the record
abbrev pub element : Record → Option Edns → Additional
element r none = ordinary r
element r (some e) = edns e

-- a record of an additional section with one TYPE 41 record
abbrev pub recognised : ℕ → Record → Additional
recognised rcode r = cond (opt? r) (element r (edns_of rcode r)) (ordinary r)

unfoldable pub additional_of : ℕ → List Record → List Additional
additional_of rcode l = cond (eqb (count opt? l) 1) (map (recognised rcode) l) (map ordinary l)

unfoldable pub view_of : Message → View
view_of m = record {
  header = m.header;
  questions = m.questions;
  answers = m.answers;
  authority = m.authority;
  additional = additional_of m.header.rcode m.additional;
}

-- the message of a view
unfoldable pub record_of : Additional → Record
record_of (ordinary r) = r
record_of (edns e) = edns_record e

unfoldable pub message_of : View → Message
message_of v = record {
  header = v.header;
  questions = v.questions;
  answers = v.answers;
  authority = v.authority;
  additional = map record_of v.additional;
}

-- ---- what is valid, limits of size aside
unfoldable pub additional? : ℕ → Additional → Bool
additional? rcode (ordinary r) = record? r
additional? rcode (edns e) = edns? rcode e

-- TYPE 41
unfoldable pub opt_entry? : Additional → Bool
opt_entry? (ordinary r) = opt? r
opt_entry? (edns e) = true

-- in a section with n entries of TYPE 41: an EDNS element is the only one, and no record that could be one is written
-- as an ordinary record
unfoldable pub settled? : ℕ → ℕ → Additional → Bool
settled? rcode n (ordinary r) = not (opt? r && eqb n 1 && present? (edns_of rcode r))
settled? rcode n (edns e) = eqb n 1

unfoldable pub additionals? : ℕ → List Additional → Bool
additionals? rcode l = section? (additional? rcode) l && all (settled? rcode (count opt_entry? l)) l

unfoldable pub view? : View → Bool
view? v =
    header? v.header
    && section? question? v.questions
    && section? record? v.answers
    && section? record? v.authority
    && additionals? v.header.rcode v.additional
