-- Where the reader stops, one row each: the longest beginning of the input that begins a text in the grammar, and the
-- rest, from the octet at fault on. One theorem over the table.
use mathlib.Core.Path.{◌≡◌, refl}
use mathlib.Core.List.{List, [], ◌∷◌, ◌++◌, map}
use Prim.Native.Nat.{ℕ}
use Prim.Native.String.{String}
use lib.ListN.{length}
use Rattle.octets.specs.Lists.{ascii, lookup}
use Rattle.octets.specs.Decimal.{natural, positive}
use Rattle.octets.specs.Hexadecimal.{hex, hex_pairs, unhex}
use Rattle.octets.specs.Codec.{table_parser}
use Rattle.octets.specs.Answer.{refused}
use Rattle.spelling.specs.Spelling.{plain?, printable?}
use Rattle.options.specs.Options.{members, rows, syntax_of}
use Rattle.edns.specs.Edns.{rcodes, flags}
use Rattle.json_text.specs.Sample.{text_with}
use Rattle.json_text.specs.Document.{ad_titles}
use Rattle.strict.specs.Parser.{parse, document, head, question_codec, record_codec, item_codec, edns_element}
use Rattle.strict.specs.Parser.{option_members, member, known_member, other_member, value, expiry_number}
use Rattle.strict.specs.Spelt.{name, root_or_labels, label, spelled_octet, spelled_at, escape, ddd, leads?}
use Rattle.strict.specs.Spelt.{coded_from?, coded?, signed_number, string, string_chars, string_char, string_at}
use Rattle.strict.specs.Spelt.{bare?, quoted}
use Rattle.strict.specs.Reading.{reading}

pub record Stop : Type 0 where
  pub begins : List ℕ
  pub rest : List ℕ

-- ---- texts up to a place, and how they go on
-- after the numbers of RD, of RA, of AD
abbrev after_rd : String → List ℕ
after_rd s = ascii "{\"ID\":0,\"QR\":0,\"Opcode\":0,\"AA\":0,\"TC\":0,\"RD\":0" ++ ascii s

abbrev after_ra : String → List ℕ
after_ra s = after_rd ",\"RA\":0" ++ ascii s

abbrev after_ad : String → List ℕ
after_ad s = after_ra ",\"AD\":0" ++ ascii s

-- in the first array; a question's name; in the second array; a record's TTL; in the last array; after UDPSIZE
abbrev asked : String → List ℕ
asked s =
    after_ad ",\"CD\":0,\"RCODE\":0,\"QDCOUNT\":0,\"ANCOUNT\":0,\"NSCOUNT\":0,\"ARCOUNT\":0,\"questionRRs\":["
    ++ ascii s

abbrev named : String → List ℕ
named s = asked "{\"NAME\":" ++ ascii s

abbrev answered : String → List ℕ
answered s = asked "],\"answerRRs\":[" ++ ascii s

abbrev timed : String → List ℕ
timed s = answered "{\"NAME\":\".\",\"TYPE\":1,\"CLASS\":1,\"TTL\":" ++ ascii s

abbrev added : String → List ℕ
added s = answered "],\"authorityRRs\":[],\"additionalRRs\":[" ++ ascii s

abbrev membered : String → List ℕ
membered s = added "{\"EDNS\":{\"Version\":0,\"FLAGS\":[],\"RCODE\":\"NoError\",\"UDPSIZE\":1232" ++ ascii s

-- a text with an EDNS element that has these members after UDPSIZE
abbrev with_members : String → List ℕ
with_members s = membered s ++ ascii "}}]}"

-- ---- the table
unfoldable pub stops : List Stop
stops =
    -- nothing; a space first; a text's beginning; a text, and more after it
    record { begins = []; rest = [] }
    ∷ record { begins = []; rest = ascii " {\"ID\":0" }
    ∷ record { begins = ascii "{\"ID\":0,\"Q"; rest = [] }
    ∷ record { begins = text_with "0" "0" "0" "0" "" "" ""; rest = ascii " " }
    ∷ record { begins = text_with "0" "0" "0" "0" "" "" ""; rest = ascii "{" }
    -- what is 21 or 22 is no fault: numbers of any size, an RCODE of 16, counts that disagree, PADDING over 65,535
    ∷ record { begins = ascii "{\"ID\":99999999999"; rest = [] }
    ∷ record { begins = text_with "16" "0" "0" "0" "" "" ""; rest = ascii "]" }
    ∷ record { begins = text_with "0" "5" "0" "0" "" "" ""; rest = ascii "]" }
    ∷ record { begins = with_members ",\"PADDING\":{\"LENGTH\":65536}"; rest = ascii "]" }
    -- numbers: a leading zero, a minus, a string
    ∷ record { begins = ascii "{\"ID\":0"; rest = ascii "0,\"QR\":0" }
    ∷ record { begins = ascii "{\"ID\":"; rest = ascii "-1,\"QR\":0" }
    ∷ record { begins = after_ad ",\"CD\":0,\"RCODE\":"; rest = ascii "\"BADVERS\"" }
    -- members: another letter case, another letter, a space, one left out, one twice
    ∷ record { begins = ascii "{\"I"; rest = ascii "d\":0" }
    ∷ record { begins = ascii "{\"ID\":0,\"Q"; rest = ascii "X\":0" }
    ∷ record { begins = ascii "{\"ID\":"; rest = ascii " 0" }
    ∷ record { begins = ascii "{\"ID\":0,\""; rest = ascii "Opcode\":0" }
    ∷ record { begins = ascii "{\"ID\":0,\""; rest = ascii "ID\":0" }
    -- Z: another number, a minus, a string, nothing, one digit more, no comma, twice, after RD, after AD
    ∷ record { begins = after_ra ",\"Z\":"; rest = ascii "0,\"AD\":0" }
    ∷ record { begins = after_ra ",\"Z\":"; rest = ascii "2,\"AD\":0" }
    ∷ record { begins = after_ra ",\"Z\":"; rest = ascii "01,\"AD\":0" }
    ∷ record { begins = after_ra ",\"Z\":"; rest = ascii "-1,\"AD\":0" }
    ∷ record { begins = after_ra ",\"Z\":"; rest = ascii "\"1\",\"AD\":0" }
    ∷ record { begins = after_ra ",\"Z\":"; rest = ascii ",\"AD\":0" }
    ∷ record { begins = after_ra ",\"Z\":1"; rest = ascii "0,\"AD\":0" }
    ∷ record { begins = after_ra ",\"Z\":1"; rest = ascii "\"AD\":0" }
    ∷ record { begins = after_ra ",\"Z\":1,\""; rest = ascii "Z\":1" }
    ∷ record { begins = after_rd ",\""; rest = ascii "Z\":1" }
    ∷ record { begins = after_ad ",\""; rest = ascii "Z\":1" }
    -- names: no label, no last dot, an empty label, a label after the root, a space
    ∷ record { begins = named "\""; rest = ascii "\",\"TYPE\":1" }
    ∷ record { begins = named "\"a"; rest = ascii "\",\"TYPE\":1" }
    ∷ record { begins = named "\"a."; rest = ascii ".\",\"TYPE\":1" }
    ∷ record { begins = named "\"."; rest = ascii "a.\",\"TYPE\":1" }
    ∷ record { begins = named "\"a"; rest = ascii " b.\"" }
    -- octets of a label: digit by digit, over 000 to 032, 034 and 127 to 255
    ∷ record { begins = named "\"\\\\0"; rest = ascii "46.\"" }
    ∷ record { begins = named "\"\\\\0"; rest = ascii "97.\"" }
    ∷ record { begins = named "\"\\\\03"; rest = ascii "3.\"" }
    ∷ record { begins = named "\"\\\\12"; rest = ascii "6.\"" }
    ∷ record { begins = named "\"\\\\25"; rest = ascii "6.\"" }
    ∷ record { begins = named "\"\\\\"; rest = ascii "3.\"" }
    ∷ record { begins = named "\"\\\\12"; rest = ascii ".\"" }
    ∷ record { begins = named "\"\\"; rest = ascii ".\"" }
    ∷ record { begins = named "\"\\\\\\"; rest = ascii ".\"" }
    ∷ record { begins = named "\"\\"; rest = ascii "\"" }
    -- half of a spelling is a beginning
    ∷ record { begins = named "\"\\"; rest = [] }
    ∷ record { begins = named "\"\\\\"; rest = [] }
    ∷ record { begins = named "\"\\\\2"; rest = [] }
    ∷ record { begins = named "\"\\\\25"; rest = [] }
    ∷ record { begins = named "\"aaaaaaaaaaaaaaaaaaaaaaaaaaaaaaaaaaaaaaaaaaaaaaaaaaaaaaaaaaaaaaaaaaaaaa"; rest = [] }
    -- TTL and hex
    ∷ record { begins = timed "-"; rest = ascii "0,\"RDATAHEX\"" }
    ∷ record { begins = timed "-"; rest = ascii "-1" }
    ∷ record { begins = timed "0"; rest = ascii "1" }
    ∷ record { begins = timed "-"; rest = [] }
    ∷ record { begins = timed "0,\"RDATAHEX\":\""; rest = ascii "ab\"" }
    ∷ record { begins = timed "0,\"RDATAHEX\":\"A"; rest = ascii "\"" }
    ∷ record { begins = timed "0,\"RDATAHEX\":\"A"; rest = ascii "G\"" }
    ∷ record { begins = timed "0,\"RDATAHEX\":\"A"; rest = ascii "a\"" }
    ∷ record { begins = timed "0,\"RDATAHEX\":\"A"; rest = [] }
    ∷ record { begins = timed "0,\"RDATAHEX\":"; rest = ascii "null" }
    -- an EDNS element: elsewhere, Version, FLAGS, RCODE
    ∷ record { begins = answered "{\""; rest = ascii "EDNS\":{" }
    ∷ record { begins = added "{\"EDNS\":{\"Version\":0"; rest = ascii "0,\"FLAGS\"" }
    ∷ record { begins = added "{\"EDNS\":{\"Version\":9,\"FLAGS\":["; rest = ascii " ]" }
    ∷ record { begins = added "{\"EDNS\":{\"Version\":9,\"FLAGS\":[\""; rest = ascii "CO\"]" }
    ∷ record { begins = added "{\"EDNS\":{\"Version\":0,\"FLAGS\":[\"DO\""; rest = ascii ",\"DO\"]" }
    ∷ record {
      begins = added "{\"EDNS\":{\"Version\":0,\"FLAGS\":[],\"RCODE\":\"BAD";
      rest = ascii "SIG\",\"UDPSIZE\":65536";
    }
    ∷ record {
      begins = added "{\"EDNS\":{\"Version\":0,\"FLAGS\":[],\"RCODE\":\"NoErr";
      rest = ascii "\",\"UDPSIZE\":1232";
    }
    ∷ record { begins = added "{\"EDNS\":{\"Version\":0,\"FLAGS\":[],\"RCODE\":\""; rest = ascii "noerror\"" }
    ∷ record { begins = added "{\"EDNS\":{\"Version\":0,\"FLAGS\":[],\"RCODE\":"; rest = ascii "16" }
    -- members of options: letter by letter over all that may stand there
    ∷ record { begins = membered ",\"KEY"; rest = ascii "S\":[]" }
    ∷ record { begins = membered ",\"N"; rest = ascii "2U\":[]" }
    ∷ record { begins = membered ",\"NSI"; rest = ascii "X\":{}" }
    ∷ record { begins = membered ",\"OPT0"; rest = ascii "5\":\"\"" }
    ∷ record { begins = membered ",\"OPT"; rest = ascii "\":\"\"" }
    ∷ record { begins = membered ",\"OPT"; rest = ascii "-1" }
    ∷ record { begins = membered ",\""; rest = ascii "UDPSIZE\":1" }
    ∷ record { begins = membered ",\"N"; rest = [] }
    ∷ record { begins = membered ",\"OPT"; rest = [] }
    ∷ record { begins = membered ","; rest = ascii " \"OPT1\"" }
    ∷ record { begins = membered ""; rest = ascii "]" }
    -- their values; codes that fall, a code of the table as `OPTn` and a second element are no faults
    ∷ record { begins = membered ",\"NSID\":"; rest = ascii "\"00\"" }
    ∷ record { begins = membered ",\"NSID\":{\"HEX\":\"00\""; rest = ascii ",\"HEX\"" }
    ∷ record { begins = membered ",\"DAU\":[8"; rest = ascii ";13]" }
    ∷ record { begins = membered ",\"DAU\":[8,"; rest = ascii "]" }
    ∷ record { begins = membered ",\"EXPIRE\":\""; rest = ascii "x\"" }
    ∷ record { begins = membered ",\"EXPIRE\":\""; rest = ascii "none\"" }
    ∷ record { begins = membered ",\"COOKIE\":["; rest = ascii "8]" }
    ∷ record { begins = membered ",\"COOKIE\":[\"00"; rest = ascii "]" }
    ∷ record { begins = membered ",\"KEEPALIVE\":"; rest = ascii "[1]" }
    ∷ record { begins = membered ",\"PADDING\":{\"LENGTH\":1,\""; rest = ascii "TEXT\":\"\"" }
    ∷ record { begins = membered ",\"PADDING\":{\""; rest = ascii "HEX\":\"\"" }
    ∷ record { begins = membered ",\"KEYTAG\":[0"; rest = ascii "1]" }
    ∷ record { begins = membered ",\"EDE\":{\"CODE\":1,\"TEXT\":\"\\"; rest = ascii "n\"" }
    ∷ record { begins = membered ",\"EDE\":{\"CODE\":1,\""; rest = ascii "HEX\":\"\"" }
    ∷ record { begins = membered ",\"EXPIRE\":\"NONE\",\"NSID\":{\"HEX\":\"\"},\"OPT3\":\"\""; rest = ascii "]" }
    ∷ record { begins = membered "}},{\"EDNS\":{\"Version\":0"; rest = [] }
    ∷ []

-- every row, computed
pub stops_hold : map (λ (s : Stop). reading (s.begins ++ s.rest)) stops
    ≡ map (λ (s : Stop). refused 20 (length s.begins)) stops
unfolding stops reading parse document head natural positive question_codec record_codec name root_or_labels label spelled_octet spelled_at escape ddd leads? coded_from? coded? plain? signed_number hex hex_pairs unhex string string_chars string_char string_at bare? printable? quoted item_codec edns_element option_members member known_member other_member value expiry_number table_parser members rows flags rcodes ad_titles syntax_of lookup
stops_hold = refl
