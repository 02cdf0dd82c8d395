-- Texts for examples.
use Rattle.std.specs.Prelude.{List, ◌++◌, ℕ}
use Prim.Native.String.{String}
use Rattle.octets.specs.Lists.{ascii}

-- a text whose header is all zero but for RCODE, with its counts and arrays, and with something after the members RD,
-- RA and AD
abbrev pub text_amid : (rd ra ad rcode qdcount ancount arcount questions answers additional : String) → List ℕ
text_amid rd ra ad rcode qdcount ancount arcount questions answers additional =
    ascii "{\"ID\":0,\"QR\":0,\"Opcode\":0,\"AA\":0,\"TC\":0,\"RD\":0" ++ ascii rd
    ++ ascii ",\"RA\":0" ++ ascii ra
    ++ ascii ",\"AD\":0" ++ ascii ad
    ++ ascii ",\"CD\":0,\"RCODE\":" ++ ascii rcode
    ++ ascii ",\"QDCOUNT\":" ++ ascii qdcount
    ++ ascii ",\"ANCOUNT\":" ++ ascii ancount
    ++ ascii ",\"NSCOUNT\":0,\"ARCOUNT\":" ++ ascii arcount
    ++ ascii ",\"questionRRs\":[" ++ ascii questions
    ++ ascii "],\"answerRRs\":[" ++ ascii answers
    ++ ascii "],\"authorityRRs\":[],\"additionalRRs\":[" ++ ascii additional
    ++ ascii "]}"

-- with nothing after these three
abbrev pub text_with : (rcode qdcount ancount arcount questions answers additional : String) → List ℕ
text_with = text_amid "" "" ""

-- of a message without entries, with something after these three
abbrev pub empty_amid : (rd ra ad : String) → List ℕ
empty_amid rd ra ad = text_amid rd ra ad "0" "0" "0" "0" "" "" ""
