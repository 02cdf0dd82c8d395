-- The profile text of a message.
use Rattle.std.specs.Prelude.{List, map, ℕ, length}
use Rattle.records.specs.Message.{Record, Message}
use Rattle.spelling.specs.Spelling.{signed}
use Rattle.edns.specs.Edns.{edns_item}
use Rattle.json_text.specs.View.{Additional, View, view_of}
use Rattle.json_text.specs.Document.{RecordItem, Item, Document, document_text}
use Rattle.json_text.specs.View as view
use Rattle.json_text.specs.Document as doc

unfoldable pub record_item : Record → RecordItem
record_item r = record { name = r.name; type = r.type; class = r.class; ttl = signed r.ttl; rdata = r.rdata }

unfoldable pub item : ℕ → Additional → Item
item rcode (view.ordinary r) = doc.ordinary (record_item r)
item rcode (view.edns e) = doc.edns (edns_item rcode e)

-- what the text of a view spells
unfoldable pub document_of : View → Document
document_of v = record {
  header = v.header;
  qdcount = length v.questions;
  ancount = length v.answers;
  nscount = length v.authority;
  arcount = length v.additional;
  questions = v.questions;
  answers = map record_item v.answers;
  authority = map record_item v.authority;
  additional = map (item v.header.rcode) v.additional;
}

unfoldable pub view_text : View → List ℕ
view_text v = document_text (document_of v)

-- the text of a message
unfoldable pub text : Message → List ℕ
text m = view_text (view_of m)
