-- The answer of each line program to a line, in the words of docs/FORMAT.md.
use Rattle.std.specs.Prelude.{◌≡◌, refl, cond, List, [], ◌∷◌, ◌++◌, ℕ, leb, ltb, length, Option, None, Some}
use Rattle.octets.specs.Lists.{ascii, each}
use Rattle.octets.specs.Decimal.{decimal}
use Rattle.octets.specs.Hexadecimal.{hex_octet}
use Rattle.octets.specs.Answer.{Output, output, refused}
use Rattle.json_text.specs.Converted.{converted}
use Rattle.strict.specs.Reading.{reading, to_wire}
use Rattle.hex_lines.specs.Hex.{unhexed, hex_left}

-- a refusal: `refused N at P`
unfoldable pub refusal_line : ℕ → ℕ → List ℕ
refusal_line number place = ascii "refused " ++ decimal number ++ ascii " at " ++ decimal place

-- how an output is printed: a text as it is, a message in hexadecimal, in capitals
abbrev pub as_text : List ℕ → List ℕ
as_text text = text

abbrev pub as_hex : List ℕ → List ℕ
as_hex message = each hex_octet message

-- what is printed of a conversion into a buffer of `room` octets: its output or its refusal; without room, refusal
-- `no_room` at 0
unfoldable pub answer_text : (List ℕ → List ℕ) → ℕ → ℕ → Output → List ℕ
answer_text spelled room no_room (output octets) = cond (leb (length octets) room) (spelled octets) (refusal_line no_room 0)
answer_text spelled room no_room (refused number place) = refusal_line number place

-- a line over `most` octets is 31, and changes no buffer
unfoldable pub within_line : ℕ → (List ℕ → List ℕ) → List ℕ → List ℕ
within_line most answer line = cond (ltb most (length line)) (refusal_line 31 0) (answer line)

unfoldable pub limited_left : ℕ → (List ℕ → List ℕ → List ℕ) → List ℕ → List ℕ → List ℕ
limited_left most left line buffer = cond (ltb most (length line)) buffer (left line buffer)

-- ---- `totext`
-- the answer to the octets of a line: the text buffer has 65,536 octets
abbrev pub message_line : Option (List ℕ) → List ℕ
message_line (Some message) = answer_text as_text 65536 10 (converted message)
message_line None = refusal_line 30 0

-- the answer to a line that is not too long
abbrev pub text_answer : List ℕ → List ℕ
text_answer line = message_line (unhexed line)

-- the answer to a line: over 8,192 characters 31, else not hexadecimal 30
unfoldable pub text_line : List ℕ → List ℕ
text_line = within_line 8192 text_answer

-- what it leaves in the message buffer: the octets of the line
unfoldable pub text_left : List ℕ → List ℕ → List ℕ
text_left = limited_left 8192 (λ line. hex_left (unhexed line))

-- ---- `towire`
-- the answer to a line that is not too long: the message buffer has 4,096 octets
abbrev pub wire_answer : List ℕ → List ℕ
wire_answer line = answer_text as_hex 4096 23 (reading line)

-- the answer to a line: over 65,536 octets 31
unfoldable pub wire_line : List ℕ → List ℕ
wire_line = within_line 65536 wire_answer

-- what it leaves in the message buffer: the message
unfoldable pub wire_left : List ℕ → List ℕ → List ℕ
wire_left = limited_left 65536 (λ line message. (to_wire line message).buffer)

-- ---- as the programs have them: a limit, and the answer to a line that is not too long
pub text_line_lem : text_line ≡ within_line 8192 text_answer
unfolding text_line
text_line_lem = refl

pub text_left_lem : text_left ≡ limited_left 8192 (λ line buffer. hex_left (unhexed line) buffer)
unfolding text_left
text_left_lem = refl

pub wire_line_lem : wire_line ≡ within_line 65536 wire_answer
unfolding wire_line
wire_line_lem = refl

pub wire_left_lem : wire_left ≡ limited_left 65536 (λ line message. (to_wire line message).buffer)
unfolding wire_left
wire_left_lem = refl

-- ---- either
-- what is printed for a line: its answer, and 10 after it
unfoldable pub printed : (List ℕ → List ℕ) → List ℕ → List ℕ
printed answer line = answer line ++ (10 ∷ [])
