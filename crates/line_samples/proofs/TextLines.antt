-- Lines of `totext` and their answers, computed.
use mathlib.Core.Path.{◌≡◌, refl}
use Rattle.std.specs.Prelude.{None, Some}
use mathlib.Core.List.{[], ◌∷◌, ◌++◌}
use lib.ListN.{replicate}
use Rattle.octets.specs.Lists.{ascii, lookup, key?, row_text, each}
use Rattle.octets.specs.Decimal.{decimal}
use Rattle.octets.specs.Hexadecimal.{hex_text}
use Rattle.names.specs.Name.{name_form}
use Rattle.names.specs.Walk.{walk, name_from}
use Rattle.records.specs.Layout.{layouts, layout_of, pieces, rdata_at}
use Rattle.records.specs.Message.{question_form, record_form, header_form, form}
use Rattle.records.specs.Read.{first_cut, question_at, record_at, section_at, section_from}
use Rattle.records.specs.Decode.{header_of, sections_of, message_read, decode}
use Rattle.spelling.specs.Spelling.{plain?, spelled, label_text, name_text}
use Rattle.edns.specs.Edns.{edns_of}
use Rattle.json_text.specs.View.{additional_of, view_of}
use Rattle.json_text.specs.Document.{question_text, record_text, item_text, ad_titles, head_text, document_text}
use Rattle.json_text.specs.Text.{document_of, view_text, text}
use Rattle.json_text.specs.Converted.{converted}
use Rattle.hex_lines.specs.Hex.{hex_value, unhexed}
use Rattle.line_answers.specs.Answers.{refusal_line, answer_text, within_line, text_line, printed}
use Rattle.lines.specs.Lines.{lines_from, lines_of, program_output}

-- the line of docs/FORMAT.md
pub message_line_lem : text_line (ascii "1A2B01000001000000000000016101620000010001")
    ≡ ascii "{\"ID\":6699,\"QR\":0,\"Opcode\":0,\"AA\":0,\"TC\":0,\"RD\":1,\"RA\":0,\"AD\":0,\"CD\":0,\"RCODE\":0,\"QDCOUNT\":1,\"ANCOUNT\":0,\"NSCOUNT\":0,\"ARCOUNT\":0,\"questionRRs\":[{\"NAME\":\"a.b.\",\"TYPE\":1,\"CLASS\":1}],\"answerRRs\":[],\"authorityRRs\":[],\"additionalRRs\":[]}"
unfolding hex_value unhexed refusal_line answer_text within_line text_line lookup key? row_text decimal hex_text name_form walk name_from layouts layout_of pieces rdata_at question_form record_form each header_form form first_cut question_at record_at section_at section_from header_of sections_of message_read decode plain? spelled label_text name_text edns_of additional_of view_of question_text record_text item_text ad_titles head_text document_text document_of view_text text converted
message_line_lem = refl

-- digits in either letter case; an odd number of them; a non-digit; the empty line
pub odd_number : unhexed (ascii "0aA0fF9") ≡ None
unfolding hex_value unhexed
odd_number = refl

pub either_case : unhexed (ascii "0aA0fFF9") ≡ Some (10 ∷ 160 ∷ 255 ∷ 249 ∷ [])
unfolding hex_value unhexed
either_case = refl

pub not_hexadecimal : text_line (ascii "0G") ≡ ascii "refused 30 at 0"
unfolding hex_value unhexed refusal_line within_line text_line decimal
not_hexadecimal = refl

pub empty_line : text_line [] ≡ ascii "refused 1 at 0"
unfolding hex_value unhexed refusal_line answer_text within_line text_line decimal decode converted
empty_line = refl

-- 8,191 digits, and a line that is too long with a non-digit in it
pub odd_line : text_line (replicate 8191 48) ≡ ascii "refused 30 at 0"
unfolding hex_value unhexed refusal_line within_line text_line decimal
odd_line = refl

pub long_line : text_line (replicate 8193 71) ≡ ascii "refused 31 at 0"
unfolding refusal_line within_line text_line decimal
long_line = refl

-- lines: none, an empty one, a last one without its end, and an octet 13 before an end
pub no_lines : lines_of [] ≡ []
unfolding lines_from
no_lines = refl

pub one_line : lines_of (10 ∷ []) ≡ [] ∷ []
unfolding lines_from
one_line = refl

pub three_lines : lines_of (48 ∷ 13 ∷ 10 ∷ 10 ∷ 49 ∷ []) ≡ (48 ∷ 13 ∷ []) ∷ [] ∷ (49 ∷ []) ∷ []
unfolding lines_from
three_lines = refl

pub three_answers : program_output text_line (48 ∷ 13 ∷ 10 ∷ 10 ∷ 49 ∷ []) ≡ ascii "refused 30 at 0" ++ (10 ∷ [])
    ++ ascii "refused 1 at 0" ++ (10 ∷ []) ++ ascii "refused 30 at 0" ++ (10 ∷ [])
unfolding hex_value unhexed refusal_line answer_text within_line text_line lines_from printed program_output each decimal decode converted
three_answers = refl
