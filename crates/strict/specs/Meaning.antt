-- The message that a document means, limits of size aside.
use Rattle.std.specs.Prelude.{Bool, ◌&&◌, cond, map, ℕ, ◌-◌, ◌/◌, ◌%◌, leb, ltb, eqb, length}
use Rattle.std.proofs.Math.Option.{Option, none, some}
use Rattle.octets.specs.Lists.{all}
use Rattle.records.specs.Message.{Record}
use Rattle.spelling.specs.Spelling.{Signed, plus, minus}
use Rattle.edns.specs.Edns.{Edns, EdnsItem}
use Rattle.json_text.specs.View.{Additional, View, view?}
use Rattle.json_text.specs.Document.{RecordItem, Item, Document}
use Rattle.json_text.specs.View as view
use Rattle.json_text.specs.Document as doc
use Rattle.strict.specs.Members.{option_of, member?}

-- ---- the view that a document would be the text of
unfoldable pub unsigned : Signed → ℕ
unsigned (plus n) = n
unsigned (minus n) = 4294967296 - n

unfoldable pub item_record : RecordItem → Record
item_record r = record { name = r.name; type = r.type; class = r.class; ttl = unsigned r.ttl; rdata = r.rdata }

unfoldable pub item_edns : EdnsItem → Edns
item_edns e = record {
  size = e.size;
  extended = e.rcode / 16;
  dnssec_ok = e.flags;
  options = map option_of e.options;
}

unfoldable pub item_additional : Item → Additional
item_additional (doc.ordinary r) = view.ordinary (item_record r)
item_additional (doc.edns e) = view.edns (item_edns e)

unfoldable pub document_view : Document → View
document_view d = record {
  header = d.header;
  questions = d.questions;
  answers = map item_record d.answers;
  authority = map item_record d.authority;
  additional = map item_additional d.additional;
}

-- ---- what the members say beside the view
-- a TTL in range
unfoldable pub ttl? : Signed → Bool
ttl? (plus n) = ltb n 2147483648
ttl? (minus n) = leb n 2147483648

abbrev pub record_item? : RecordItem → Bool
record_item? r = ttl? r.ttl

-- Version is 0, RCODE modulo 16 is the header's, and each option member is that of an option
unfoldable pub edns_item? : ℕ → EdnsItem → Bool
edns_item? rcode e = eqb e.version 0 && eqb (e.rcode % 16) rcode && all member? e.options

unfoldable pub item? : ℕ → Item → Bool
item? rcode (doc.ordinary r) = record_item? r
item? rcode (doc.edns e) = edns_item? rcode e

-- counts that are those of the arrays
unfoldable pub counts? : Document → Bool
counts? d =
    eqb d.qdcount (length d.questions)
    && eqb d.ancount (length d.answers)
    && eqb d.nscount (length d.authority)
    && eqb d.arcount (length d.additional)

unfoldable pub agrees? : Document → Bool
agrees? d = counts? d && all record_item? d.answers && all record_item? d.authority
    && all (item? d.header.rcode) d.additional

-- The meaning, whose absence is refusal 21. Its clauses, by the list of docs/FORMAT.md:
-- a number out of range: header?, u8?, u16?, u32?, ttl?, value?, member?, and counts over 65,535: section?;
-- label over 63, name over 255: name?; counts that differ from the arrays: counts?;
-- RDATA that misses its layout or has a pointer in it: rdata_fits?;
-- EDNS rules not met: edns_item?, edns?, settled?, member?; an EDNS record written as an ordinary one: settled?;
-- EDNS RCODE modulo 16 not the header's: edns_item?.
unfoldable pub meaning : Document → Option View
meaning d = cond (agrees? d && view? (document_view d)) (some (document_view d)) none
