-- What a text in the grammar of docs/FORMAT.md holds: numbers of any size, labels of any length, options in any order
-- and number. Which of these documents can be spelled is said by strict/specs/Grammar.antt.
use Rattle.std.specs.Prelude.{List, [], ◌∷◌, ◌++◌, ℕ}
use Prim.Native.String.{String}
use Rattle.octets.specs.Lists.{ascii, row_text, listed}
use Rattle.octets.specs.Decimal.{decimal}
use Rattle.octets.specs.Hexadecimal.{hex_text}
use Rattle.names.specs.Name.{Name}
use Rattle.records.specs.Message.{Header, Question}
use Rattle.spelling.specs.Spelling.{name_text, Signed, signed_text}
use Rattle.edns.specs.Edns.{EdnsItem, edns_text}

-- a record's members
pub record RecordItem : Type 0 where
  pub name : Name
  pub type : ℕ
  pub class : ℕ
  pub ttl : Signed
  pub rdata : List ℕ

-- an element of `additionalRRs`
pub data Item : Type 0 where
  ordinary : RecordItem → Item
  edns : EdnsItem → Item

pub record Document : Type 0 where
  pub header : Header
  pub qdcount : ℕ
  pub ancount : ℕ
  pub nscount : ℕ
  pub arcount : ℕ
  pub questions : List Question
  pub answers : List RecordItem
  pub authority : List RecordItem
  pub additional : List Item

-- ---- texts
unfoldable pub question_text : Question → List ℕ
question_text q =
    ascii "{\"NAME\":" ++ name_text q.name
    ++ ascii ",\"TYPE\":" ++ decimal q.type
    ++ ascii ",\"CLASS\":" ++ decimal q.class
    ++ ascii "}"

unfoldable pub record_text : RecordItem → List ℕ
record_text r =
    ascii "{\"NAME\":" ++ name_text r.name
    ++ ascii ",\"TYPE\":" ++ decimal r.type
    ++ ascii ",\"CLASS\":" ++ decimal r.class
    ++ ascii ",\"TTL\":" ++ signed_text r.ttl
    ++ ascii ",\"RDATAHEX\":" ++ hex_text r.rdata
    ++ ascii "}"

unfoldable pub item_text : Item → List ℕ
item_text (ordinary r) = record_text r
item_text (edns e) = edns_text e

-- what is between RA's number and AD's, by Z: a clear Z has no member
unfoldable pub ad_titles : List (ℕ × String)
ad_titles = (0, ",\"AD\":") ∷ (1, ",\"Z\":1,\"AD\":") ∷ []

unfoldable pub head_text : Document → List ℕ
head_text d =
    ascii "{\"ID\":" ++ decimal d.header.id
    ++ ascii ",\"QR\":" ++ decimal d.header.qr
    ++ ascii ",\"Opcode\":" ++ decimal d.header.opcode
    ++ ascii ",\"AA\":" ++ decimal d.header.aa
    ++ ascii ",\"TC\":" ++ decimal d.header.tc
    ++ ascii ",\"RD\":" ++ decimal d.header.rd
    ++ ascii ",\"RA\":" ++ decimal d.header.ra
    ++ row_text d.header.z ad_titles ++ decimal d.header.ad
    ++ ascii ",\"CD\":" ++ decimal d.header.cd
    ++ ascii ",\"RCODE\":" ++ decimal d.header.rcode
    ++ ascii ",\"QDCOUNT\":" ++ decimal d.qdcount
    ++ ascii ",\"ANCOUNT\":" ++ decimal d.ancount
    ++ ascii ",\"NSCOUNT\":" ++ decimal d.nscount
    ++ ascii ",\"ARCOUNT\":" ++ decimal d.arcount

unfoldable pub document_text : Document → List ℕ
document_text d =
    head_text d
    ++ ascii ",\"questionRRs\":" ++ listed question_text d.questions
    ++ ascii ",\"answerRRs\":" ++ listed record_text d.answers
    ++ ascii ",\"authorityRRs\":" ++ listed record_text d.authority
    ++ ascii ",\"additionalRRs\":" ++ listed item_text d.additional
    ++ ascii "}"
