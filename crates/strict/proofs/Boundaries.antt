-- Texts at the limits of the reader's rules, one row each, and one theorem over the table. Stops.antt has the
-- other rows of 20.
use mathlib.Core.Path.{◌≡◌, refl}
use mathlib.Core.List.{List, [], ◌∷◌, map}
use Prim.Native.Nat.{ℕ}
use Rattle.octets.specs.Decimal.{natural, positive, decimal}
use Rattle.octets.specs.Hexadecimal.{hex, hex_pairs, unhex, hex_text}
use Rattle.octets.specs.Codec.{table_parser}
use Rattle.octets.specs.Lists.{ascii, lookup, row_text, key?, each}
use Rattle.octets.specs.Answer.{Output, output, refused}
use Rattle.names.specs.Name.{name?, label?, name_form}
use Rattle.names.specs.Walk.{walk, name_from}
use Rattle.records.specs.Message.{header?, question?, record?, form, header_form, question_form, record_form}
use Rattle.records.specs.Layout.{rdata_fits?, layouts, layout_of, pieces, rdata_at}
use Rattle.records.proofs.Boundaries.{Verdict, taken, refuses}
use Rattle.edns.specs.Edns.{rcodes, edns?, option?, rising?, divided, options_of, edns_of, edns_record, option_form}
use Rattle.edns.specs.Edns.{small_option?, flags}
use Rattle.json_text.specs.Sample.{text_amid, text_with, empty_amid}
use Rattle.json_text.specs.Document.{ad_titles}
use Rattle.spelling.specs.Spelling.{plain?, printable?, spelled, string_octet}
use Rattle.options.specs.Options.{members, rows, syntax_of, shape, words}
use Rattle.json_text.specs.View.{view?, additionals?, additional?, settled?, opt_entry?, message_of, record_of}
use Rattle.json_text.specs.Limits.{within?, small_rdata?, small_options?}
use Rattle.strict.specs.Members.{value?, member?, option_of, octets_of}
use Rattle.strict.specs.Parser.{parse, document, head, question_codec, record_codec, item_codec, edns_element}
use Rattle.strict.specs.Parser.{option_members, member, known_member, other_member, value, expiry_number}
use Rattle.strict.specs.Spelt.{name, root_or_labels, label, spelled_octet, spelled_at, escape, ddd, leads?}
use Rattle.strict.specs.Spelt.{coded_from?, coded?, signed_number, string, string_chars, string_char, string_at}
use Rattle.strict.specs.Spelt.{bare?, quoted}
use Rattle.strict.specs.Reading.{reading}
use Rattle.strict.specs.Meaning.{meaning, document_view, item_record, item_edns, item_additional, unsigned, agrees?}
use Rattle.strict.specs.Meaning.{counts?, ttl?, edns_item?, item?}

abbrev pub outcome : Output → Verdict
outcome (output l) = taken
outcome (refused number place) = refuses number place

-- a text, and what reading it gives
pub record Reading : Type 0 where
  pub text : List ℕ
  pub gives : Verdict

unfoldable pub readings : List Reading
readings =
    -- no entry; RCODE 15 and 16
    record { text = text_with "0" "0" "0" "0" "" "" ""; gives = taken }
    ∷ record { text = text_with "15" "0" "0" "0" "" "" ""; gives = taken }
    ∷ record { text = text_with "16" "0" "0" "0" "" "" ""; gives = refuses 21 0 }
    -- a count that differs from its array
    ∷ record { text = text_with "0" "1" "0" "0" "" "" ""; gives = refuses 21 0 }
    -- TTL
    ∷ record {
      text = text_with "0" "0" "1" "0" ""
          "{\"NAME\":\".\",\"TYPE\":1,\"CLASS\":1,\"TTL\":-2147483648,\"RDATAHEX\":\"\"}" "";
      gives = taken;
    }
    ∷ record {
      text = text_with "0" "0" "1" "0" ""
          "{\"NAME\":\".\",\"TYPE\":1,\"CLASS\":1,\"TTL\":-2147483649,\"RDATAHEX\":\"\"}" "";
      gives = refuses 21 0;
    }
    ∷ record {
      text = text_with "0" "0" "1" "0" ""
          "{\"NAME\":\".\",\"TYPE\":1,\"CLASS\":1,\"TTL\":2147483647,\"RDATAHEX\":\"\"}" "";
      gives = taken;
    }
    ∷ record {
      text = text_with "0" "0" "1" "0" ""
          "{\"NAME\":\".\",\"TYPE\":1,\"CLASS\":1,\"TTL\":2147483648,\"RDATAHEX\":\"\"}" "";
      gives = refuses 21 0;
    }
    -- labels of 63 and 64
    ∷ record {
      text = text_with "0" "1" "0" "0"
          "{\"NAME\":\"aaaaaaaaaaaaaaaaaaaaaaaaaaaaaaaaaaaaaaaaaaaaaaaaaaaaaaaaaaaaaaa.\",\"TYPE\":1,\"CLASS\":1}" ""
          "";
      gives = taken;
    }
    ∷ record {
      text = text_with "0" "1" "0" "0"
          "{\"NAME\":\"aaaaaaaaaaaaaaaaaaaaaaaaaaaaaaaaaaaaaaaaaaaaaaaaaaaaaaaaaaaaaaaa.\",\"TYPE\":1,\"CLASS\":1}" ""
          "";
      gives = refuses 21 0;
    }
    -- RDATA of NS: its layout, octets after it, a pointer, nothing
    ∷ record {
      text = text_with "0" "0" "1" "0" ""
          "{\"NAME\":\".\",\"TYPE\":2,\"CLASS\":1,\"TTL\":0,\"RDATAHEX\":\"00\"}" "";
      gives = taken;
    }
    ∷ record {
      text = text_with "0" "0" "1" "0" ""
          "{\"NAME\":\".\",\"TYPE\":2,\"CLASS\":1,\"TTL\":0,\"RDATAHEX\":\"0000\"}" "";
      gives = refuses 21 0;
    }
    ∷ record {
      text = text_with "0" "0" "1" "0" ""
          "{\"NAME\":\".\",\"TYPE\":2,\"CLASS\":1,\"TTL\":0,\"RDATAHEX\":\"C00C\"}" "";
      gives = refuses 21 0;
    }
    ∷ record {
      text = text_with "0" "0" "1" "0" "" "{\"NAME\":\".\",\"TYPE\":2,\"CLASS\":1,\"TTL\":0,\"RDATAHEX\":\"\"}"
          "";
      gives = taken;
    }
    -- the EDNS element: Version, FLAGS, RCODE
    ∷ record {
      text = text_with "0" "0" "0" "1" "" ""
          "{\"EDNS\":{\"Version\":0,\"FLAGS\":[],\"RCODE\":\"NoError\",\"UDPSIZE\":1232}}";
      gives = taken;
    }
    ∷ record {
      text = text_with "0" "0" "0" "1" "" ""
          "{\"EDNS\":{\"Version\":1,\"FLAGS\":[],\"RCODE\":\"NoError\",\"UDPSIZE\":1232}}";
      gives = refuses 21 0;
    }
    -- RCODE 16 is BADVERS; BADSIG is 20, at its S
    ∷ record {
      text = text_with "0" "0" "0" "1" "" ""
          "{\"EDNS\":{\"Version\":0,\"FLAGS\":[],\"RCODE\":\"BADVERS\",\"UDPSIZE\":1232}}";
      gives = taken;
    }
    ∷ record {
      text = text_with "0" "0" "0" "1" "" ""
          "{\"EDNS\":{\"Version\":0,\"FLAGS\":[],\"RCODE\":\"BADSIG\",\"UDPSIZE\":1232}}";
      gives = refuses 20 237;
    }
    ∷ record {
      text = text_with "7" "0" "0" "1" "" ""
          "{\"EDNS\":{\"Version\":0,\"FLAGS\":[],\"RCODE\":\"BADCOOKIE\",\"UDPSIZE\":1232}}";
      gives = taken;
    }
    ∷ record {
      text = text_with "0" "0" "0" "1" "" ""
          "{\"EDNS\":{\"Version\":0,\"FLAGS\":[],\"RCODE\":\"BADCOOKIE\",\"UDPSIZE\":1232}}";
      gives = refuses 21 0;
    }
    -- twice; beside a TYPE 41 record; written as an ordinary record; two ordinary ones
    ∷ record {
      text = text_with "0" "0" "0" "2" "" ""
          "{\"EDNS\":{\"Version\":0,\"FLAGS\":[],\"RCODE\":\"NoError\",\"UDPSIZE\":1232}},{\"EDNS\":{\"Version\":0,\"FLAGS\":[],\"RCODE\":\"NoError\",\"UDPSIZE\":1232}}";
      gives = refuses 21 0;
    }
    ∷ record {
      text = text_with "0" "0" "0" "2" "" ""
          "{\"EDNS\":{\"Version\":0,\"FLAGS\":[],\"RCODE\":\"NoError\",\"UDPSIZE\":1232}},{\"NAME\":\".\",\"TYPE\":41,\"CLASS\":1,\"TTL\":65536,\"RDATAHEX\":\"\"}";
      gives = refuses 21 0;
    }
    ∷ record {
      text = text_with "0" "0" "0" "1" "" ""
          "{\"NAME\":\".\",\"TYPE\":41,\"CLASS\":1,\"TTL\":0,\"RDATAHEX\":\"\"}";
      gives = refuses 21 0;
    }
    ∷ record {
      text = text_with "0" "0" "0" "1" "" ""
          "{\"NAME\":\".\",\"TYPE\":41,\"CLASS\":1,\"TTL\":65536,\"RDATAHEX\":\"\"}";
      gives = taken;
    }
    ∷ record {
      text = text_with "0" "0" "0" "2" "" ""
          "{\"NAME\":\".\",\"TYPE\":41,\"CLASS\":1,\"TTL\":0,\"RDATAHEX\":\"\"},{\"NAME\":\".\",\"TYPE\":41,\"CLASS\":1,\"TTL\":0,\"RDATAHEX\":\"\"}";
      gives = taken;
    }
    -- options: order, repetition
    ∷ record {
      text = text_with "0" "0" "0" "1" "" ""
          "{\"EDNS\":{\"Version\":0,\"FLAGS\":[],\"RCODE\":\"NoError\",\"UDPSIZE\":1232,\"NSID\":{\"HEX\":\"00\"},\"EXPIRE\":\"NONE\"}}";
      gives = taken;
    }
    ∷ record {
      text = text_with "0" "0" "0" "1" "" ""
          "{\"EDNS\":{\"Version\":0,\"FLAGS\":[],\"RCODE\":\"NoError\",\"UDPSIZE\":1232,\"EXPIRE\":\"NONE\",\"NSID\":{\"HEX\":\"00\"}}}";
      gives = refuses 21 0;
    }
    ∷ record {
      text = text_with "0" "0" "0" "1" "" ""
          "{\"EDNS\":{\"Version\":0,\"FLAGS\":[],\"RCODE\":\"NoError\",\"UDPSIZE\":1232,\"EXPIRE\":\"NONE\",\"EXPIRE\":\"NONE\"}}";
      gives = refuses 21 0;
    }
    -- `OPTn`: out of range, with its row's shape, without it, without a row
    ∷ record {
      text = text_with "0" "0" "0" "1" "" ""
          "{\"EDNS\":{\"Version\":0,\"FLAGS\":[],\"RCODE\":\"NoError\",\"UDPSIZE\":1232,\"OPT65536\":\"\"}}";
      gives =
          refuses 21 0;
    }
    ∷ record {
      text = text_with "0" "0" "0" "1" "" ""
          "{\"EDNS\":{\"Version\":0,\"FLAGS\":[],\"RCODE\":\"NoError\",\"UDPSIZE\":1232,\"OPT3\":\"\"}}";
      gives =
          refuses 21 0;
    }
    ∷ record {
      text = text_with "0" "0" "0" "1" "" ""
          "{\"EDNS\":{\"Version\":0,\"FLAGS\":[],\"RCODE\":\"NoError\",\"UDPSIZE\":1232,\"OPT9\":\"00\"}}";
      gives =
          taken;
    }
    ∷ record {
      text = text_with "0" "0" "0" "1" "" ""
          "{\"EDNS\":{\"Version\":0,\"FLAGS\":[],\"RCODE\":\"NoError\",\"UDPSIZE\":1232,\"OPT65535\":\"\"}}";
      gives =
          taken;
    }
    -- EXPIRE, COOKIE, EDE
    ∷ record {
      text = text_with "0" "0" "0" "1" "" ""
          "{\"EDNS\":{\"Version\":0,\"FLAGS\":[],\"RCODE\":\"NoError\",\"UDPSIZE\":1232,\"EXPIRE\":4294967296}}";
      gives =
          refuses 21 0;
    }
    ∷ record {
      text = text_with "0" "0" "0" "1" "" ""
          "{\"EDNS\":{\"Version\":0,\"FLAGS\":[],\"RCODE\":\"NoError\",\"UDPSIZE\":1232,\"COOKIE\":[]}}";
      gives =
          refuses 21 0;
    }
    ∷ record {
      text = text_with "0" "0" "0" "1" "" ""
          "{\"EDNS\":{\"Version\":0,\"FLAGS\":[],\"RCODE\":\"NoError\",\"UDPSIZE\":1232,\"COOKIE\":[\"0000000000000000\"]}}";
      gives = taken;
    }
    ∷ record {
      text = text_with "0" "0" "0" "1" "" ""
          "{\"EDNS\":{\"Version\":0,\"FLAGS\":[],\"RCODE\":\"NoError\",\"UDPSIZE\":1232,\"EDE\":{\"CODE\":1,\"TEXT\":\"\"}}}";
      gives = refuses 21 0;
    }
    ∷ record {
      text = text_with "0" "0" "0" "1" "" ""
          "{\"EDNS\":{\"Version\":0,\"FLAGS\":[],\"RCODE\":\"NoError\",\"UDPSIZE\":1232,\"EDE\":{\"CODE\":1,\"TEXT\":\"\\\"\\\\\"}}}";
      gives = taken;
    }
    -- PADDING: HEX all zero, not all zero, a LENGTH that disagrees, LENGTH alone, over 65,535
    ∷ record {
      text = text_with "0" "0" "0" "1" "" ""
          "{\"EDNS\":{\"Version\":0,\"FLAGS\":[],\"RCODE\":\"NoError\",\"UDPSIZE\":1232,\"PADDING\":{\"LENGTH\":2,\"HEX\":\"0000\"}}}";
      gives = refuses 21 0;
    }
    ∷ record {
      text = text_with "0" "0" "0" "1" "" ""
          "{\"EDNS\":{\"Version\":0,\"FLAGS\":[],\"RCODE\":\"NoError\",\"UDPSIZE\":1232,\"PADDING\":{\"LENGTH\":0,\"HEX\":\"\"}}}";
      gives = refuses 21 0;
    }
    ∷ record {
      text = text_with "0" "0" "0" "1" "" ""
          "{\"EDNS\":{\"Version\":0,\"FLAGS\":[],\"RCODE\":\"NoError\",\"UDPSIZE\":1232,\"PADDING\":{\"LENGTH\":2,\"HEX\":\"0001\"}}}";
      gives = taken;
    }
    ∷ record {
      text = text_with "0" "0" "0" "1" "" ""
          "{\"EDNS\":{\"Version\":0,\"FLAGS\":[],\"RCODE\":\"NoError\",\"UDPSIZE\":1232,\"PADDING\":{\"LENGTH\":3,\"HEX\":\"0001\"}}}";
      gives = refuses 21 0;
    }
    ∷ record {
      text = text_with "0" "0" "0" "1" "" ""
          "{\"EDNS\":{\"Version\":0,\"FLAGS\":[],\"RCODE\":\"NoError\",\"UDPSIZE\":1232,\"PADDING\":{\"LENGTH\":2}}}";
      gives = taken;
    }
    ∷ record {
      text = text_with "0" "0" "0" "1" "" ""
          "{\"EDNS\":{\"Version\":0,\"FLAGS\":[],\"RCODE\":\"NoError\",\"UDPSIZE\":1232,\"PADDING\":{\"LENGTH\":65536}}}";
      gives = refuses 22 0;
    }
    -- numbers of the header, of questions, a count: the last in range and the first out of it
    ∷ record {
      text = ascii
          "{\"ID\":65535,\"QR\":1,\"Opcode\":15,\"AA\":1,\"TC\":1,\"RD\":1,\"RA\":1,\"Z\":1,\"AD\":1,\"CD\":1,\"RCODE\":0,\"QDCOUNT\":0,\"ANCOUNT\":0,\"NSCOUNT\":0,\"ARCOUNT\":0,\"questionRRs\":[],\"answerRRs\":[],\"authorityRRs\":[],\"additionalRRs\":[]}";
      gives = taken;
    }
    ∷ record {
      text = ascii
          "{\"ID\":65536,\"QR\":0,\"Opcode\":0,\"AA\":0,\"TC\":0,\"RD\":0,\"RA\":0,\"AD\":0,\"CD\":0,\"RCODE\":0,\"QDCOUNT\":0,\"ANCOUNT\":0,\"NSCOUNT\":0,\"ARCOUNT\":0,\"questionRRs\":[],\"answerRRs\":[],\"authorityRRs\":[],\"additionalRRs\":[]}";
      gives = refuses 21 0;
    }
    ∷ record {
      text = ascii
          "{\"ID\":0,\"QR\":2,\"Opcode\":0,\"AA\":0,\"TC\":0,\"RD\":0,\"RA\":0,\"AD\":0,\"CD\":0,\"RCODE\":0,\"QDCOUNT\":0,\"ANCOUNT\":0,\"NSCOUNT\":0,\"ARCOUNT\":0,\"questionRRs\":[],\"answerRRs\":[],\"authorityRRs\":[],\"additionalRRs\":[]}";
      gives = refuses 21 0;
    }
    ∷ record {
      text = ascii
          "{\"ID\":0,\"QR\":0,\"Opcode\":16,\"AA\":0,\"TC\":0,\"RD\":0,\"RA\":0,\"AD\":0,\"CD\":0,\"RCODE\":0,\"QDCOUNT\":0,\"ANCOUNT\":0,\"NSCOUNT\":0,\"ARCOUNT\":0,\"questionRRs\":[],\"answerRRs\":[],\"authorityRRs\":[],\"additionalRRs\":[]}";
      gives = refuses 21 0;
    }
    ∷ record {
      text = ascii
          "{\"ID\":0,\"QR\":0,\"Opcode\":0,\"AA\":2,\"TC\":0,\"RD\":0,\"RA\":0,\"AD\":0,\"CD\":0,\"RCODE\":0,\"QDCOUNT\":0,\"ANCOUNT\":0,\"NSCOUNT\":0,\"ARCOUNT\":0,\"questionRRs\":[],\"answerRRs\":[],\"authorityRRs\":[],\"additionalRRs\":[]}";
      gives = refuses 21 0;
    }
    ∷ record {
      text = ascii
          "{\"ID\":0,\"QR\":0,\"Opcode\":0,\"AA\":0,\"TC\":0,\"RD\":0,\"RA\":0,\"AD\":0,\"CD\":2,\"RCODE\":0,\"QDCOUNT\":0,\"ANCOUNT\":0,\"NSCOUNT\":0,\"ARCOUNT\":0,\"questionRRs\":[],\"answerRRs\":[],\"authorityRRs\":[],\"additionalRRs\":[]}";
      gives = refuses 21 0;
    }
    ∷ record {
      text = ascii
          "{\"ID\":0,\"QR\":0,\"Opcode\":0,\"AA\":0,\"TC\":0,\"RD\":0,\"RA\":0,\"AD\":0,\"CD\":0,\"RCODE\":0,\"QDCOUNT\":65536,\"ANCOUNT\":0,\"NSCOUNT\":0,\"ARCOUNT\":0,\"questionRRs\":[],\"answerRRs\":[],\"authorityRRs\":[],\"additionalRRs\":[]}";
      gives = refuses 21 0;
    }
    ∷ record { text = text_with "0" "1" "0" "0" "{\"NAME\":\".\",\"TYPE\":65535,\"CLASS\":65535}" "" ""; gives = taken }
    ∷ record {
      text = text_with "0" "1" "0" "0" "{\"NAME\":\".\",\"TYPE\":65536,\"CLASS\":1}" "" "";
      gives = refuses 21 0;
    }
    ∷ record {
      text = text_with "0" "1" "0" "0" "{\"NAME\":\".\",\"TYPE\":1,\"CLASS\":65536}" "" "";
      gives = refuses 21 0;
    }
    -- Z: set, between RA and AD; 0 there, at the 0; 10, at its 0; set beside a number out of range
    ∷ record { text = empty_amid "" ",\"Z\":1" ""; gives = taken }
    ∷ record { text = empty_amid "" ",\"Z\":0" ""; gives = refuses 20 58 }
    ∷ record { text = empty_amid "" ",\"Z\":10" ""; gives = refuses 20 59 }
    ∷ record { text = text_amid "" ",\"Z\":1" "" "16" "0" "0" "0" "" "" ""; gives = refuses 21 0 }
    -- names of 255 and 256 octets; a dot, a backslash, 0x7F and 0xFF as digits
    ∷ record {
      text = text_with "0" "1" "0" "0"
          "{\"NAME\":\"aaaaaaaaaaaaaaaaaaaaaaaaaaaaaaaaaaaaaaaaaaaaaaaaaaaaaaaaaaaaaaa.aaaaaaaaaaaaaaaaaaaaaaaaaaaaaaaaaaaaaaaaaaaaaaaaaaaaaaaaaaaaaaa.aaaaaaaaaaaaaaaaaaaaaaaaaaaaaaaaaaaaaaaaaaaaaaaaaaaaaaaaaaaaaaa.aaaaaaaaaaaaaaaaaaaaaaaaaaaaaaaaaaaaaaaaaaaaaaaaaaaaaaaaaaaaa.\",\"TYPE\":1,\"CLASS\":1}" "" "";
      gives = taken;
    }
    ∷ record {
      text = text_with "0" "1" "0" "0"
          "{\"NAME\":\"aaaaaaaaaaaaaaaaaaaaaaaaaaaaaaaaaaaaaaaaaaaaaaaaaaaaaaaaaaaaaaa.aaaaaaaaaaaaaaaaaaaaaaaaaaaaaaaaaaaaaaaaaaaaaaaaaaaaaaaaaaaaaaa.aaaaaaaaaaaaaaaaaaaaaaaaaaaaaaaaaaaaaaaaaaaaaaaaaaaaaaaaaaaaaaa.aaaaaaaaaaaaaaaaaaaaaaaaaaaaaaaaaaaaaaaaaaaaaaaaaaaaaaaaaaaaaa.\",\"TYPE\":1,\"CLASS\":1}" "" "";
      gives = refuses 21 0;
    }
    ∷ record { text = text_with "0" "1" "0" "0" "{\"NAME\":\"\\\\..\",\"TYPE\":1,\"CLASS\":1}" "" ""; gives = taken }
    ∷ record { text = text_with "0" "1" "0" "0" "{\"NAME\":\"\\\\\\\\.\",\"TYPE\":1,\"CLASS\":1}" "" ""; gives = taken }
    ∷ record { text = text_with "0" "1" "0" "0" "{\"NAME\":\"\\\\127.\",\"TYPE\":1,\"CLASS\":1}" "" ""; gives = taken }
    ∷ record { text = text_with "0" "1" "0" "0" "{\"NAME\":\"\\\\255.\",\"TYPE\":1,\"CLASS\":1}" "" ""; gives = taken }
    -- RDATA of MX, SOA and MINFO: one octet less, the layout, one more; top bits 01
    ∷ record {
      text = text_with "0" "0" "1" "0" ""
          "{\"NAME\":\".\",\"TYPE\":15,\"CLASS\":1,\"TTL\":0,\"RDATAHEX\":\"0001\"}" "";
      gives = refuses 21 0;
    }
    ∷ record {
      text = text_with "0" "0" "1" "0" ""
          "{\"NAME\":\".\",\"TYPE\":15,\"CLASS\":1,\"TTL\":0,\"RDATAHEX\":\"000100\"}" "";
      gives = taken;
    }
    ∷ record {
      text = text_with "0" "0" "1" "0" ""
          "{\"NAME\":\".\",\"TYPE\":15,\"CLASS\":1,\"TTL\":0,\"RDATAHEX\":\"00010000\"}" "";
      gives = refuses 21 0;
    }
    ∷ record {
      text = text_with "0" "0" "1" "0" ""
          "{\"NAME\":\".\",\"TYPE\":6,\"CLASS\":1,\"TTL\":0,\"RDATAHEX\":\"000000000000000000000000000000000000000000\"}"
          "";
      gives = refuses 21 0;
    }
    ∷ record {
      text = text_with "0" "0" "1" "0" ""
          "{\"NAME\":\".\",\"TYPE\":6,\"CLASS\":1,\"TTL\":0,\"RDATAHEX\":\"00000000000000000000000000000000000000000000\"}" "";
      gives = taken;
    }
    ∷ record {
      text = text_with "0" "0" "1" "0" ""
          "{\"NAME\":\".\",\"TYPE\":6,\"CLASS\":1,\"TTL\":0,\"RDATAHEX\":\"0000000000000000000000000000000000000000000000\"}" "";
      gives = refuses 21 0;
    }
    ∷ record {
      text = text_with "0" "0" "1" "0" ""
          "{\"NAME\":\".\",\"TYPE\":14,\"CLASS\":1,\"TTL\":0,\"RDATAHEX\":\"00\"}" "";
      gives = refuses 21 0;
    }
    ∷ record {
      text = text_with "0" "0" "1" "0" ""
          "{\"NAME\":\".\",\"TYPE\":14,\"CLASS\":1,\"TTL\":0,\"RDATAHEX\":\"0000\"}" "";
      gives = taken;
    }
    ∷ record {
      text = text_with "0" "0" "1" "0" ""
          "{\"NAME\":\".\",\"TYPE\":14,\"CLASS\":1,\"TTL\":0,\"RDATAHEX\":\"000000\"}" "";
      gives = refuses 21 0;
    }
    ∷ record {
      text = text_with "0" "0" "1" "0" ""
          "{\"NAME\":\".\",\"TYPE\":2,\"CLASS\":1,\"TTL\":0,\"RDATAHEX\":\"406161616161616161616161616161616161616161616161616161616161616161616161616161616161616161616161616161616161616161616161616161616100\"}" "";
      gives = refuses 21 0;
    }
    -- a name of 255 octets in RDATA, one of 256
    ∷ record {
      text = text_with "0" "0" "1" "0" ""
          "{\"NAME\":\".\",\"TYPE\":2,\"CLASS\":1,\"TTL\":0,\"RDATAHEX\":\"3F6161616161616161616161616161616161616161616161616161616161616161616161616161616161616161616161616161616161616161616161616161613F6161616161616161616161616161616161616161616161616161616161616161616161616161616161616161616161616161616161616161616161616161613F6161616161616161616161616161616161616161616161616161616161616161616161616161616161616161616161616161616161616161616161616161613D6161616161616161616161616161616161616161616161616161616161616161616161616161616161616161616161616161616161616161616161616100\"}" "";
      gives = taken;
    }
    ∷ record {
      text = text_with "0" "0" "1" "0" ""
          "{\"NAME\":\".\",\"TYPE\":2,\"CLASS\":1,\"TTL\":0,\"RDATAHEX\":\"3F6161616161616161616161616161616161616161616161616161616161616161616161616161616161616161616161616161616161616161616161616161613F6161616161616161616161616161616161616161616161616161616161616161616161616161616161616161616161616161616161616161616161616161613F6161616161616161616161616161616161616161616161616161616161616161616161616161616161616161616161616161616161616161616161616161613E616161616161616161616161616161616161616161616161616161616161616161616161616161616161616161616161616161616161616161616161616100\"}" "";
      gives = refuses 21 0;
    }
    -- a lone TYPE 41 record: DO, another flag, an RCODE without a name; options that divide, fall, repeat, do not
    -- divide; an owner; in answers
    ∷ record {
      text = text_with "0" "0" "0" "1" "" ""
          "{\"NAME\":\".\",\"TYPE\":41,\"CLASS\":1,\"TTL\":32768,\"RDATAHEX\":\"\"}";
      gives = refuses 21 0;
    }
    ∷ record {
      text = text_with "0" "0" "0" "1" "" ""
          "{\"NAME\":\".\",\"TYPE\":41,\"CLASS\":1,\"TTL\":1,\"RDATAHEX\":\"\"}";
      gives = taken;
    }
    ∷ record {
      text = text_with "0" "0" "0" "1" "" ""
          "{\"NAME\":\".\",\"TYPE\":41,\"CLASS\":1,\"TTL\":33554432,\"RDATAHEX\":\"\"}";
      gives = taken;
    }
    ∷ record {
      text = text_with "0" "0" "0" "1" "" ""
          "{\"NAME\":\".\",\"TYPE\":41,\"CLASS\":1,\"TTL\":0,\"RDATAHEX\":\"00090000\"}";
      gives = refuses 21 0;
    }
    ∷ record {
      text = text_with "0" "0" "0" "1" "" ""
          "{\"NAME\":\".\",\"TYPE\":41,\"CLASS\":1,\"TTL\":0,\"RDATAHEX\":\"000A000000090000\"}";
      gives = taken;
    }
    ∷ record {
      text = text_with "0" "0" "0" "1" "" ""
          "{\"NAME\":\".\",\"TYPE\":41,\"CLASS\":1,\"TTL\":0,\"RDATAHEX\":\"0009000000090000\"}";
      gives = taken;
    }
    ∷ record {
      text = text_with "0" "0" "0" "1" "" ""
          "{\"NAME\":\".\",\"TYPE\":41,\"CLASS\":1,\"TTL\":0,\"RDATAHEX\":\"00\"}";
      gives = taken;
    }
    ∷ record {
      text = text_with "0" "0" "0" "1" "" ""
          "{\"NAME\":\"a.\",\"TYPE\":41,\"CLASS\":1,\"TTL\":0,\"RDATAHEX\":\"\"}";
      gives = taken;
    }
    ∷ record {
      text = text_with "0" "0" "1" "0" "" "{\"NAME\":\".\",\"TYPE\":41,\"CLASS\":1,\"TTL\":0,\"RDATAHEX\":\"\"}"
          "";
      gives = taken;
    }
    -- the header's RCODE 12 beside an element; UDPSIZE
    ∷ record {
      text = text_with "12" "0" "0" "1" "" ""
          "{\"EDNS\":{\"Version\":0,\"FLAGS\":[],\"RCODE\":\"NoError\",\"UDPSIZE\":1232}}";
      gives = refuses 21 0;
    }
    ∷ record {
      text = text_with "0" "0" "0" "1" "" ""
          "{\"EDNS\":{\"Version\":0,\"FLAGS\":[],\"RCODE\":\"NoError\",\"UDPSIZE\":65535}}";
      gives = taken;
    }
    ∷ record {
      text = text_with "0" "0" "0" "1" "" ""
          "{\"EDNS\":{\"Version\":0,\"FLAGS\":[],\"RCODE\":\"NoError\",\"UDPSIZE\":65536}}";
      gives = refuses 21 0;
    }
    -- numbers of options: the last in range and the first out of it
    ∷ record {
      text = text_with "0" "0" "0" "1" "" ""
          "{\"EDNS\":{\"Version\":0,\"FLAGS\":[],\"RCODE\":\"NoError\",\"UDPSIZE\":1232,\"DAU\":[255]}}";
      gives = taken;
    }
    ∷ record {
      text = text_with "0" "0" "0" "1" "" ""
          "{\"EDNS\":{\"Version\":0,\"FLAGS\":[],\"RCODE\":\"NoError\",\"UDPSIZE\":1232,\"DAU\":[256]}}";
      gives =
          refuses 21 0;
    }
    ∷ record {
      text = text_with "0" "0" "0" "1" "" ""
          "{\"EDNS\":{\"Version\":0,\"FLAGS\":[],\"RCODE\":\"NoError\",\"UDPSIZE\":1232,\"KEYTAG\":[65535]}}";
      gives =
          taken;
    }
    ∷ record {
      text = text_with "0" "0" "0" "1" "" ""
          "{\"EDNS\":{\"Version\":0,\"FLAGS\":[],\"RCODE\":\"NoError\",\"UDPSIZE\":1232,\"KEYTAG\":[65536]}}";
      gives =
          refuses 21 0;
    }
    ∷ record {
      text = text_with "0" "0" "0" "1" "" ""
          "{\"EDNS\":{\"Version\":0,\"FLAGS\":[],\"RCODE\":\"NoError\",\"UDPSIZE\":1232,\"KEEPALIVE\":65535}}";
      gives =
          taken;
    }
    ∷ record {
      text = text_with "0" "0" "0" "1" "" ""
          "{\"EDNS\":{\"Version\":0,\"FLAGS\":[],\"RCODE\":\"NoError\",\"UDPSIZE\":1232,\"KEEPALIVE\":65536}}";
      gives =
          refuses 21 0;
    }
    ∷ record {
      text = text_with "0" "0" "0" "1" "" ""
          "{\"EDNS\":{\"Version\":0,\"FLAGS\":[],\"RCODE\":\"NoError\",\"UDPSIZE\":1232,\"EDE\":{\"CODE\":65535}}}";
      gives = taken;
    }
    ∷ record {
      text = text_with "0" "0" "0" "1" "" ""
          "{\"EDNS\":{\"Version\":0,\"FLAGS\":[],\"RCODE\":\"NoError\",\"UDPSIZE\":1232,\"EDE\":{\"CODE\":65536}}}";
      gives = refuses 21 0;
    }
    -- COOKIE: 7 and 9 octets; a second of 7, 8, 32 and 33; a third
    ∷ record {
      text = text_with "0" "0" "0" "1" "" ""
          "{\"EDNS\":{\"Version\":0,\"FLAGS\":[],\"RCODE\":\"NoError\",\"UDPSIZE\":1232,\"COOKIE\":[\"00000000000000\"]}}";
      gives = refuses 21 0;
    }
    ∷ record {
      text = text_with "0" "0" "0" "1" "" ""
          "{\"EDNS\":{\"Version\":0,\"FLAGS\":[],\"RCODE\":\"NoError\",\"UDPSIZE\":1232,\"COOKIE\":[\"000000000000000000\"]}}";
      gives = refuses 21 0;
    }
    ∷ record {
      text = text_with "0" "0" "0" "1" "" ""
          "{\"EDNS\":{\"Version\":0,\"FLAGS\":[],\"RCODE\":\"NoError\",\"UDPSIZE\":1232,\"COOKIE\":[\"0000000000000000\",\"00000000000000\"]}}";
      gives = refuses 21 0;
    }
    ∷ record {
      text = text_with "0" "0" "0" "1" "" ""
          "{\"EDNS\":{\"Version\":0,\"FLAGS\":[],\"RCODE\":\"NoError\",\"UDPSIZE\":1232,\"COOKIE\":[\"0000000000000000\",\"000000000000000000000000000000000000000000000000000000000000000000\"]}}";
      gives = refuses 21 0;
    }
    ∷ record {
      text = text_with "0" "0" "0" "1" "" ""
          "{\"EDNS\":{\"Version\":0,\"FLAGS\":[],\"RCODE\":\"NoError\",\"UDPSIZE\":1232,\"COOKIE\":[\"0000000000000000\",\"0000000000000000\",\"0000000000000000\"]}}";
      gives = refuses 21 0;
    }
    ∷ record {
      text = text_with "0" "0" "0" "1" "" ""
          "{\"EDNS\":{\"Version\":0,\"FLAGS\":[],\"RCODE\":\"NoError\",\"UDPSIZE\":1232,\"COOKIE\":[\"0000000000000000\",\"0000000000000000\"]}}";
      gives = taken;
    }
    ∷ record {
      text = text_with "0" "0" "0" "1" "" ""
          "{\"EDNS\":{\"Version\":0,\"FLAGS\":[],\"RCODE\":\"NoError\",\"UDPSIZE\":1232,\"COOKIE\":[\"0000000000000000\",\"0000000000000000000000000000000000000000000000000000000000000000\"]}}";
      gives = taken;
    }
    -- 21 before 22
    ∷ record {
      text = text_with "0" "0" "0" "1" "" ""
          "{\"EDNS\":{\"Version\":1,\"FLAGS\":[],\"RCODE\":\"NoError\",\"UDPSIZE\":1232,\"PADDING\":{\"LENGTH\":65536}}}";
      gives = refuses 21 0;
    }
    ∷ []

-- every row, computed
pub readings_hold : map (λ (r : Reading). outcome (reading r.text)) readings ≡ map
    (λ (r : Reading). r.gives) readings
unfolding readings parse document head natural positive question_codec record_codec name root_or_labels label spelled_octet spelled_at escape ddd leads? coded_from? coded? plain? signed_number hex hex_pairs unhex string string_chars string_char string_at bare? printable? quoted item_codec edns_element option_members member known_member other_member value expiry_number table_parser members rows flags rcodes ad_titles syntax_of lookup row_text decimal spelled string_octet hex_text reading meaning document_view item_record item_edns item_additional unsigned agrees? counts? ttl? edns_item? item? view? additionals? additional? settled? opt_entry? edns? option? header? question? record? name? label? name_form rdata_fits? walk name_from layouts layout_of pieces rdata_at rising? divided options_of edns_of key? shape words value? member? option_of octets_of within? small_rdata? small_option? small_options? message_of record_of edns_record option_form each form header_form question_form record_form
readings_hold = refl
