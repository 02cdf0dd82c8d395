-- The words of the front page.
use Rattle.std.specs.Prelude.{◌∷◌, T}
use Rattle.json_text.specs.View.{view?}
use Rattle.json_text.specs.Document.{Document, document_text}
use Rattle.json_text.specs.Text.{view_text}
use Rattle.strict.specs.Grammar.{DocumentIn}
-- of the library: equality, lists, numbers
pub use Rattle.std.specs.Prelude.{◌≡◌, ◌↔◌, ◌⊎◌, false, List, [], ◌++◌, map, ℕ, ◌≤◌, ◌<◌, length, take, drop}
pub use Rattle.octets.specs.Lists.{All, Octets, hexed}
-- answers: success with a length, a refusal with its number and place; a call has an input, a buffer before and after,
-- an answer
pub use Rattle.octets.specs.Answer.{Answer, success, refusal, reported}
pub use Rattle.octets.specs.Calls.{Call, written_by}
-- messages, their uncompressed form, what octets are decoded to; a view is a message without limits of size
pub use Rattle.records.specs.Message.{Message, form}
pub use Rattle.records.specs.Decode.{Decoded, accepted, refused, decode}
pub use Rattle.json_text.specs.View.{View}
pub use Rattle.json_text.specs.Limits.{within?}
-- the text of a message
pub use Rattle.json_text.specs.Text.{text}
-- what the conversions ensure of a call; an answer as C reads it
pub use Rattle.json_text.specs.Converted.{converted, Converts}
pub use Rattle.strict.specs.Reading.{Reads}
pub use Rattle.velvetshelf.specs.Calls.{answer_in}

-- the length of the lent buffer
abbrev pub room : Call → ℕ
room c = length c.before

-- the octets l fit the buffer, and n is their number
abbrev pub Length : Call → ℕ → List ℕ → Type 0
Length c n l = (length l ≤ room c) × (n ≡ length l)

-- given room: if the message is accepted, the buffer is at least as long as its text
abbrev pub FitsIn : Decoded → ℕ → Type 0
FitsIn (accepted m) size = length (text m) ≤ size
FitsIn (refused number place) size = Unit {0}

abbrev pub Room : Call → Type 0
Room c = FitsIn (decode c.input) (room c)

-- a call of one of the two conversions; two calls of the same one
abbrev pub Made : Call → Type 0
Made c = Converts c ⊎ Reads c

abbrev pub Both : Call → Call → Type 0
Both c d = (Converts c × Converts d) ⊎ (Reads c × Reads d)

-- the converter accepts the input as m; the input is the text of m, and the converter accepts some octets as m
abbrev pub Accepts : Call → Message → Type 0
Accepts c m = decode c.input ≡ accepted m

abbrev pub Accepted : Message → Type 0
Accepted m = (s : List ℕ) × Octets s × (decode s ≡ accepted m)

abbrev pub Spells : Call → Message → Type 0
Spells c m = Accepted m × (text m ≡ c.input)

-- the text is within the grammar
abbrev pub InGrammar : List ℕ → Type 0
InGrammar t = (d : Document) × DocumentIn d × (document_text d ≡ t)

-- the octets begin some text in the grammar
abbrev pub Begins : List ℕ → Type 0
Begins u = (d : Document) × DocumentIn d × (r : List ℕ) × (document_text d ≡ u ++ r)

-- the first p octets of t begin some text in the grammar, and no longer beginning of t does
abbrev pub LongestBeginning : List ℕ → ℕ → Type 0
LongestBeginning t p =
    (p ≤ length t) × Begins (take p t) × ((n : ℕ) → n ≤ length t → Begins (take n t) → n ≤ p)

-- a message, of any size, has this text; none has it
abbrev pub HasText : List ℕ → View → Type 0
HasText t v = T (view? v) × (view_text v ≡ t)

abbrev pub NoMessage : List ℕ → Type 0
NoMessage t = (v : View) → HasText t v → ⊥

-- what a list of calls wrote, set end to end
unfoldable pub stream : List Call → List ℕ
stream [] = []
stream (c ∷ l) = written_by c ++ stream l

-- the uncompressed forms of the accepted messages, in the list's order
abbrev pub add_form : Decoded → List (List ℕ) → List (List ℕ)
add_form (accepted m) l = form m ∷ l
add_form (refused number place) l = l

unfoldable pub forms_of : List Call → List (List ℕ)
forms_of [] = []
forms_of (c ∷ l) = add_form (decode c.input) (forms_of l)
