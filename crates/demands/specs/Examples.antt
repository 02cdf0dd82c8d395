-- The short examples of docs/FORMAT.md, one row each, and one theorem over the table.
use Rattle.std.specs.Prelude.{◌≡◌, refl, List, [], ◌∷◌, map}
use Prim.Native.String.{String}
use Rattle.octets.specs.Lists.{hexed, lookup, key?, row_text, each}
use Rattle.octets.specs.Decimal.{decimal}
use Rattle.octets.specs.Hexadecimal.{hex_text}
use Rattle.names.specs.Name.{name_form}
use Rattle.names.specs.Walk.{walk, name_from}
use Rattle.records.specs.Layout.{layouts, layout_of, pieces, rdata_at}
use Rattle.records.specs.Message.{question_form, record_form, header_form, form}
use Rattle.records.specs.Read.{first_cut, question_at, record_at, section_at, section_from}
use Rattle.records.specs.Decode.{header_of, sections_of, message_read, decode}
use Rattle.spelling.specs.Spelling.{plain?, spelled, label_text, name_text, signed_text, printable?, string_octet}
use Rattle.spelling.specs.Spelling.{string_text, signed}
use Rattle.options.specs.Options.{rows, members, syntax_of, value_text, words, shape, member_of, member_text}
use Rattle.edns.specs.Edns.{option_form, divided, options_of, rising?, rcodes, edns_of, flags, edns_text, edns_item}
use Rattle.json_text.specs.View.{additional_of, view_of}
use Rattle.json_text.specs.Document.{question_text, record_text, item_text, ad_titles, head_text, document_text}
use Rattle.json_text.specs.Sample.{text_with, empty_amid}
use Rattle.json_text.specs.Text.{record_item, item, document_of, view_text, text}
use Rattle.json_text.specs.Converted.{converted, to_text}
use Rattle.octets.specs.Answer.{Output, output, refused}

-- a message in hexadecimal, and what converting it gives
pub record Example : Type 0 where
  pub message : String
  pub gives : Output

abbrev pub says : (rcode qdcount ancount arcount questions answers additional : String) → Output
says rcode qdcount ancount arcount questions answers additional =
    output (text_with rcode qdcount ancount arcount questions answers additional)

unfoldable pub examples : List Example
examples =
    -- empty message: 1 at 0
    record { message = ""; gives = refused 1 0 }
    -- 12 zero octets: accepted, four empty arrays
    ∷ record { message = "000000000000000000000000"; gives = says "0" "0" "0" "0" "" "" "" }
    -- a 13th octet after them: 8 at 12
    ∷ record { message = "00000000000000000000000000"; gives = refused 8 12 }
    -- Z alone set in 12 octets: accepted, `"Z":1` between RA and AD, four empty arrays
    ∷ record { message = "000000400000000000000000"; gives = output (empty_amid "" ",\"Z\":1" "") }
    -- TTL FFFFFFFF is -1
    ∷ record {
      message = "0000000000000001000000000000010001FFFFFFFF0000";
      gives = says "0" "0" "1" "0" "" "{\"NAME\":\".\",\"TYPE\":1,\"CLASS\":1,\"TTL\":-1,\"RDATAHEX\":\"\"}" "";
    }
    -- TTL 80000000 is -2147483648
    ∷ record {
      message = "0000000000000001000000000000010001800000000000";
      gives = says "0" "0" "1" "0" "" "{\"NAME\":\".\",\"TYPE\":1,\"CLASS\":1,\"TTL\":-2147483648,\"RDATAHEX\":\"\"}"
          "";
    }
    -- label of the one octet 2E: `\\..`
    ∷ record {
      message = "000000000001000000000000012E0000010001";
      gives = says "0" "1" "0" "0" "{\"NAME\":\"\\\\..\",\"TYPE\":1,\"CLASS\":1}" "" "";
    }
    -- label of 00: `\\000.`
    ∷ record {
      message = "00000000000100000000000001000000010001";
      gives = says "0" "1" "0" "0" "{\"NAME\":\"\\\\000.\",\"TYPE\":1,\"CLASS\":1}" "" "";
    }
    -- pointer C00C as the first question's name: 5 at 12
    ∷ record { message = "000000000001000000000000C00C00010001"; gives = refused 5 12 }
    -- a label before it: 5 at 14, the pointer
    ∷ record { message = "0000000000010000000000000161C00C00010001"; gives = refused 5 14 }
    -- a label past the end: 1 at 12, its length octet
    ∷ record { message = "0000000000010000000000000361"; gives = refused 1 12 }
    -- half of CLASS: 1 at 15
    ∷ record { message = "00000000000100000000000000000100"; gives = refused 1 15 }
    -- RDATA of NS past the message: 1 at 23; ends inside its layout: 7 at 23; has an octet left over: 11 at 26
    ∷ record { message = "0000000000000001000000000000020001000000000004016100"; gives = refused 1 23 }
    ∷ record { message = "00000000000000010000000000000200010000000000020161"; gives = refused 7 23 }
    ∷ record { message = "000000000000000100000000000002000100000000000401610000"; gives = refused 11 26 }
    -- one additional record 00 0029 04D0 00008000 0004 00090000, header RCODE 0
    ∷ record {
      message = "00000000000000000000000100002904D000008000000400090000";
      gives = says "0" "0" "0" "1" "" ""
          "{\"EDNS\":{\"Version\":0,\"FLAGS\":[\"DO\"],\"RCODE\":\"NoError\",\"UDPSIZE\":1232,\"EXPIRE\":\"NONE\"}}";
    }
    -- the generic example of 004 (TTL 16859136, version 1) stays an ordinary record
    ∷ record {
      message = "00000000000000000000000100002904D0010140000006000F00020015";
      gives = says "0" "0" "0" "1" "" ""
          "{\"NAME\":\".\",\"TYPE\":41,\"CLASS\":1232,\"TTL\":16859136,\"RDATAHEX\":\"000F00020015\"}";
    }
    -- TTL first octet 1, header RCODE 7: BADCOOKIE
    ∷ record {
      message = "00000007000000000000000100002904D0010000000000";
      gives = says "7" "0" "0" "1" "" ""
          "{\"EDNS\":{\"Version\":0,\"FLAGS\":[],\"RCODE\":\"BADCOOKIE\",\"UDPSIZE\":1232}}";
    }
    -- TTL first octet 1, header RCODE 0: BADVERS
    ∷ record {
      message = "00000000000000000000000100002904D0010000000000";
      gives = says "0" "0" "0" "1" "" ""
          "{\"EDNS\":{\"Version\":0,\"FLAGS\":[],\"RCODE\":\"BADVERS\",\"UDPSIZE\":1232}}";
    }
    ∷ []

-- every example, computed
pub examples_hold : map (λ (e : Example). converted (hexed e.message)) examples ≡ map
    (λ (e : Example). e.gives) examples
unfolding examples lookup key? row_text decimal hex_text name_form walk name_from layouts layout_of pieces rdata_at question_form record_form each header_form form first_cut question_at record_at section_at section_from header_of sections_of message_read decode plain? spelled label_text name_text signed_text printable? string_octet string_text rows members syntax_of value_text words shape member_of member_text option_form divided options_of rising? rcodes edns_of additional_of view_of question_text record_text flags edns_text item_text ad_titles head_text document_text signed record_item edns_item item document_of view_text text converted to_text
examples_hold = refl
