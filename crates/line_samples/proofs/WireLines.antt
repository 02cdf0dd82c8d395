-- Lines of `towire` and their answers, computed.
use mathlib.Core.Path.{◌≡◌, refl}
use mathlib.Core.List.{List, [], ◌∷◌, ◌++◌, map}
use Prim.Native.Nat.{ℕ}
use lib.ListN.{replicate}
use Rattle.octets.specs.Decimal.{natural, positive, decimal}
use Rattle.octets.specs.Hexadecimal.{hex, hex_pairs, unhex, hex_text}
use Rattle.octets.specs.Codec.{table_parser}
use Rattle.json_text.specs.Document.{ad_titles}
use Rattle.octets.specs.Lists.{ascii, lookup, row_text, key?, each}
use Rattle.names.specs.Name.{name?, label?, name_form}
use Rattle.names.specs.Walk.{walk, name_from}
use Rattle.records.specs.Message.{header?, question?, record?, form, header_form, question_form, record_form}
use Rattle.records.specs.Layout.{rdata_fits?, layouts, layout_of, pieces, rdata_at}
use Rattle.edns.specs.Edns.{rcodes, edns?, option?, rising?, divided, options_of, edns_of, edns_record, option_form}
use Rattle.edns.specs.Edns.{small_option?, flags}
use Rattle.spelling.specs.Spelling.{plain?, printable?, spelled, string_octet}
use Rattle.options.specs.Options.{members, rows, syntax_of, shape, words}
use Rattle.json_text.specs.Sample.{text_with}
use Rattle.json_text.specs.View.{view?, additionals?, additional?, settled?, opt_entry?, message_of, record_of}
use Rattle.json_text.specs.Limits.{within?, small_rdata?, small_options?}
use Rattle.strict.specs.Members.{value?, member?, option_of, octets_of}
use Rattle.strict.specs.Parser.{parse, document, head, question_codec, record_codec, item_codec, edns_element}
use Rattle.strict.specs.Parser.{option_members, member}
use Rattle.strict.specs.Parser.{known_member, other_member, value, expiry_number}
use Rattle.strict.specs.Spelt.{name, root_or_labels, label, spelled_octet, spelled_at, escape, ddd, leads?}
use Rattle.strict.specs.Spelt.{coded_from?, coded?, signed_number, string, string_chars, string_char, string_at}
use Rattle.strict.specs.Spelt.{bare?, quoted}
use Rattle.strict.specs.Reading.{reading}
use Rattle.strict.specs.Meaning.{meaning, document_view, item_record, item_edns, item_additional, unsigned, agrees?}
use Rattle.strict.specs.Meaning.{counts?, ttl?, edns_item?, item?}
use Rattle.line_answers.specs.Answers.{refusal_line, answer_text, within_line, wire_line}

-- a line, and its answer
pub record Sample : Type 0 where
  pub line : List ℕ
  pub answer : List ℕ

unfoldable pub samples : List Sample
samples =
    -- the text of docs/FORMAT.md
    record {
      line = ascii "{\"ID\":6699,\"QR\":0,\"Opcode\":0,\"AA\":0,\"TC\":0,\"RD\":1,\"RA\":0,\"AD\":0,\"CD\":0,\"RCODE\":0,\"QDCOUNT\":1,\"ANCOUNT\":0,\"NSCOUNT\":0,\"ARCOUNT\":0,\"questionRRs\":[{\"NAME\":\"a.b.\",\"TYPE\":1,\"CLASS\":1}],\"answerRRs\":[],\"authorityRRs\":[],\"additionalRRs\":[]}";
      answer = ascii "1A2B01000001000000000000016101620000010001";
    }
    -- an empty line; a line of spaces at the limit, and one octet longer
    ∷ record { line = []; answer = ascii "refused 20 at 0" }
    ∷ record { line = replicate 65536 32; answer = ascii "refused 20 at 0" }
    ∷ record { line = replicate 65537 32; answer = ascii "refused 31 at 0" }
    -- messages of 4,096 and 4,097 octets
    ∷ record {
      line = text_with "0" "0" "0" "1" "" ""
          "{\"EDNS\":{\"Version\":0,\"FLAGS\":[],\"RCODE\":\"NoError\",\"UDPSIZE\":1232,\"PADDING\":{\"LENGTH\":4069}}}";
      answer = ascii "00000000000000000000000100002904D0000000000FE9000C0FE5" ++ replicate 8138 48;
    }
    ∷ record {
      line = text_with "0" "0" "0" "1" "" ""
          "{\"EDNS\":{\"Version\":0,\"FLAGS\":[],\"RCODE\":\"NoError\",\"UDPSIZE\":1232,\"PADDING\":{\"LENGTH\":4070}}}";
      answer = ascii "refused 23 at 0";
    }
    ∷ []

-- every row, computed
pub samples_hold : map (λ (s : Sample). wire_line s.line) samples ≡ map (λ (s : Sample). s.answer) samples
unfolding samples within_line wire_line answer_text refusal_line parse document head natural positive question_codec record_codec name root_or_labels label spelled_octet spelled_at escape ddd leads? coded_from? coded? plain? signed_number hex hex_pairs unhex string string_chars string_char string_at bare? printable? quoted item_codec edns_element option_members member known_member other_member value expiry_number table_parser members rows flags rcodes ad_titles syntax_of lookup row_text decimal spelled string_octet hex_text reading meaning document_view item_record item_edns item_additional unsigned agrees? counts? ttl? edns_item? item? view? additionals? additional? settled? opt_entry? edns? option? header? question? record? name? label? name_form rdata_fits? walk name_from layouts layout_of pieces rdata_at rising? divided options_of edns_of key? shape words value? member? option_of octets_of within? small_rdata? small_option? small_options? message_of record_of edns_record option_form each form header_form question_form record_form
samples_hold = refl
