-- EDNS options: the table of docs/FORMAT.md, the shapes of their values, and their members.
use Rattle.std.specs.Prelude.{Bool, ◌&&◌, cond, List, [], ◌∷◌, ◌++◌, map, ℕ, ◌+◌, ◌*◌, ◌%◌, leb, eqb, length, take, drop}
use Rattle.std.proofs.Math.Option.{Option, none, some}
use Prim.Native.String.{String}
use Rattle.octets.specs.Lists.{ascii, all, lookup, row_text, listed}
use Rattle.octets.specs.Fields.{be16_at, be32_at}
use Rattle.octets.specs.Decimal.{decimal}
use Rattle.octets.specs.Hexadecimal.{hex_text}
use Rattle.spelling.specs.Spelling.{printable?, string_text}

-- ---- the table
-- what the value of an option's member looks like
pub data Syntax : Type 0 where
  -- `{"HEX":hex}`
  hex_object : Syntax
  -- list of octets as numbers
  octet_list : Syntax
  -- `"NONE"` or a number
  expiry : Syntax
  -- list of hex strings
  hex_list : Syntax
  -- number
  word : Syntax
  -- `{"LENGTH":n}` or `{"LENGTH":n,"HEX":hex}`
  padding : Syntax
  -- list of 2-octet numbers
  word_list : Syntax
  -- `{"CODE":n}` or `{"CODE":n,"TEXT":string}`
  extended_error : Syntax
  -- no row of the table
  unlisted : Syntax

-- the member and its value's syntax, by code
pub record Row : Type 0 where
  pub member : String
  pub syntax : Syntax

unfoldable pub rows : List (ℕ × Row)
rows =
    (3, record { member = "NSID"; syntax = hex_object })
    ∷ (5, record { member = "DAU"; syntax = octet_list })
    ∷ (6, record { member = "DHU"; syntax = octet_list })
    ∷ (7, record { member = "N3U"; syntax = octet_list })
    ∷ (9, record { member = "EXPIRE"; syntax = expiry })
    ∷ (10, record { member = "COOKIE"; syntax = hex_list })
    ∷ (11, record { member = "KEEPALIVE"; syntax = word })
    ∷ (12, record { member = "PADDING"; syntax = padding })
    ∷ (14, record { member = "KEYTAG"; syntax = word_list })
    ∷ (15, record { member = "EDE"; syntax = extended_error })
    ∷ []

-- the members by code
unfoldable pub members : List (ℕ × String)
members = map (λ (row : ℕ × Row). (row.0, row.1.member)) rows

abbrev pub row_syntax : Option Row → Syntax
row_syntax none = unlisted
row_syntax (some row) = row.syntax

unfoldable pub syntax_of : ℕ → Syntax
syntax_of code = row_syntax (lookup code rows)

-- ---- values
abbrev pub Value : Syntax → Type 0
Value hex_object = List ℕ
Value octet_list = List ℕ
Value expiry = Option ℕ
Value hex_list = List (List ℕ)
Value word = ℕ
Value padding = ℕ × Option (List ℕ)
Value word_list = List ℕ
Value extended_error = ℕ × Option (List ℕ)
Value unlisted = Unit {0}

-- the rest of an object: its end, or one more member
abbrev pub padding_tail : Option (List ℕ) → List ℕ
padding_tail none = ascii "}"
padding_tail (some hex) = ascii ",\"HEX\":" ++ hex_text hex ++ ascii "}"

abbrev pub error_tail : Option (List ℕ) → List ℕ
error_tail none = ascii "}"
error_tail (some text) = ascii ",\"TEXT\":" ++ string_text text ++ ascii "}"

abbrev pub expiry_text : Option ℕ → List ℕ
expiry_text none = ascii "\"NONE\""
expiry_text (some n) = decimal n

unfoldable pub value_text : (syntax : Syntax) → Value syntax → List ℕ
value_text hex_object hex = ascii "{\"HEX\":" ++ hex_text hex ++ ascii "}"
value_text octet_list l = listed decimal l
value_text expiry n = expiry_text n
value_text hex_list l = listed hex_text l
value_text word n = decimal n
value_text padding p = ascii "{\"LENGTH\":" ++ decimal p.0 ++ padding_tail p.1
value_text word_list l = listed decimal l
value_text extended_error e = ascii "{\"CODE\":" ++ decimal e.0 ++ error_tail e.1
value_text unlisted u = []

-- ---- the shapes: what the octets of an option's value are, if they have the shape of the syntax
abbrev pub zero? : ℕ → Bool
zero? x = eqb x 0

-- two octets a number; of an odd octet at the end nothing is made
unfoldable pub words : List ℕ → List ℕ
words [] = []
words (x ∷ []) = []
words (x ∷ y ∷ l) = (x * 256 + y) ∷ words l

abbrev pub present : List ℕ → Option (List ℕ)
present [] = none
present (x ∷ l) = some (x ∷ l)

unfoldable pub shape : (syntax : Syntax) → List ℕ → Option (Value syntax)
shape hex_object l = some l
shape octet_list l = some l
shape expiry l = cond (eqb (length l) 0) (some none) (cond (eqb (length l) 4) (some (some (be32_at l 0))) none)
shape hex_list l =
    cond (eqb (length l) 8) (some (l ∷ []))
    (cond (leb 16 (length l) && leb (length l) 40) (some (take 8 l ∷ drop 8 l ∷ [])) none)
shape word l = cond (eqb (length l) 2) (some (be16_at l 0)) none
shape padding l = some (length l, cond (all zero? l) none (some l))
shape word_list l = cond (eqb (length l % 2) 0) (some (words l)) none
shape extended_error l =
    cond (leb 2 (length l) && all printable? (drop 2 l)) (some (be16_at l 0, present (drop 2 l))) none
shape unlisted l = none

-- ---- an option, and its member
-- an option of the record: code and value
pub record EdnsOption : Type 0 where
  pub code : ℕ
  pub value : List ℕ

-- a member: one of the table with its value, or `OPTn` with hex
pub data Member : Type 0 where
  known : (code : ℕ) → Value (syntax_of code) → Member
  other : ℕ → List ℕ → Member

abbrev pub chosen : (code : ℕ) → List ℕ → Option (Value (syntax_of code)) → Member
chosen code value none = other code value
chosen code value (some v) = known code v

-- an option takes its row's syntax if its value has the shape
unfoldable pub member_of : EdnsOption → Member
member_of o = chosen o.code o.value (shape (syntax_of o.code) o.value)

-- the text of a member
unfoldable pub member_text : Member → List ℕ
member_text (known code v) = ascii "\"" ++ row_text code members ++ ascii "\":" ++ value_text (syntax_of code) v
member_text (other code hex) = ascii "\"OPT" ++ decimal code ++ ascii "\":" ++ hex_text hex
