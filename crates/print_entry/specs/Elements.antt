-- The elements of a message's text by the octets of the message: questions and records at their offsets.
use Rattle.std.specs.Prelude.{Bool, true, ◌&&◌, cond, List, ◌++◌, ℕ, ◌+◌, ◌%◌, eqb, length, get_or}
use Rattle.octets.specs.Lists.{ascii}
use Rattle.octets.specs.Hexadecimal.{hex_text}
use Rattle.names.specs.Walk.{part}
use Rattle.records.specs.Layout.{Laid, laid, misfit, rdata_at}
use Rattle.records.specs.Message.{Record}
use Rattle.records.specs.Read.{Entry, entry, bad, question_at, record_at}
use Rattle.records.specs.declared.Record.{Record as Head}
use Rattle.spelling.specs.Spelling.{signed, signed_text}
use Rattle.spelling.specs.Form.{form_text}
use Rattle.edns.specs.Element.{shows_edns, element_text}
use Rattle.json_text.proofs.ViewLaws.{entry_of}
use Rattle.json_text.specs.Document.{question_text, item_text}
use Rattle.json_text.specs.Text.{item}
use Rattle.print_head.specs.Head.{number_text}
use Rattle.print_entry.specs.Prints.{texts}
use Rattle.print_entry.specs.declared.Element.{Element}
use Rattle.print_entry.specs.declared.Element.TheVariants as element

-- ---- parts of elements
-- NAME by the name's form, TYPE, CLASS
unfoldable pub start_text : List ℕ → ℕ → ℕ → List ℕ
start_text form type class = ascii "{\"NAME\":" ++ form_text form ++ number_text (ascii ",\"TYPE\":") type
    ++ number_text (ascii ",\"CLASS\":") class

-- a record up to its RDATA
unfoldable pub fields_text : List ℕ → ℕ → ℕ → ℕ → List ℕ
fields_text form type class ttl = start_text form type class ++ ascii ",\"TTL\":" ++ signed_text (signed ttl)
    ++ ascii ",\"RDATAHEX\":"

-- RDATA that ends at an offset
abbrev pub hex_of_rdata : ℕ → Laid → Entry (List ℕ)
hex_of_rdata end (laid d) = entry (hex_text d) end
hex_of_rdata end (misfit fault) = bad fault

unfoldable pub rdata_text : List ℕ → ℕ → ℕ → ℕ → Entry (List ℕ)
rdata_text s type start size = hex_of_rdata (start + size) (rdata_at true s type start size)

-- a record as it is, by what the code reads of it before RDATA
unfoldable pub ordinary_text : List ℕ → Head → Entry (List ℕ)
ordinary_text s h =
    texts (λ t. fields_text h.owner h.rtype h.class h.ttl ++ t ++ ascii "}")
    (rdata_text s h.rtype h.rdata h.rdlength)

-- the header's RCODE
abbrev pub rcode_of : List ℕ → ℕ
rcode_of s = get_or s 3 0 % 16

-- RDATA as it is in the message
abbrev pub rdata_of : List ℕ → Head → List ℕ
rdata_of s h = part s h.rdata h.rdlength

-- it is an EDNS element
unfoldable pub shows? : List ℕ → Head → Bool → Bool
shows? s h lone = lone && eqb h.rtype 41 && shows_edns (eqb (length h.owner) 1) h.ttl (rcode_of s) (rdata_of s h)

-- a record by what the code reads of it before RDATA: an EDNS element, or as it is
unfoldable pub shown_text : Bool → List ℕ → Head → Entry (List ℕ)
shown_text lone s h =
    cond (shows? s h lone) (entry (element_text h.class h.ttl (rcode_of s) (rdata_of s h)) (h.rdata + h.rdlength))
    (ordinary_text s h)

-- ---- elements
unfoldable pub question_text_at : List ℕ → ℕ → Entry (List ℕ)
question_text_at s at = texts question_text (question_at s at)

-- a record's element, by the header's RCODE and whether one of TYPE 41 is the only one of the additional section
unfoldable pub entry_text : ℕ → Bool → Record → List ℕ
entry_text rcode lone r = item_text (item rcode (entry_of rcode lone r))

unfoldable pub record_text_at : Bool → List ℕ → ℕ → Entry (List ℕ)
record_text_at lone s at = texts (entry_text (rcode_of s) lone) (record_at s at)

unfoldable pub text_at : Element → List ℕ → ℕ → Entry (List ℕ)
text_at element.Question s at = question_text_at s at
text_at (element.Record lone) s at = record_text_at lone s at
