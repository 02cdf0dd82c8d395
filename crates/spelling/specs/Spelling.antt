-- How names, signed numbers and strings are spelled.
use Rattle.std.specs.Prelude.{Bool, not, ◌&&◌, cond, List, [], ◌∷◌, ◌++◌, ℕ, ◌+◌, ◌-◌, ◌/◌, ◌%◌, leb, ltb, eqb}
use Rattle.octets.specs.Lists.{ascii, none?, ended}
use Rattle.octets.specs.Decimal.{decimal}
use Rattle.names.specs.Name.{Name}

-- ---- names
-- an octet of a label that stands for itself: 0x21 to 0x7E, except quote, dot and backslash
unfoldable pub plain? : ℕ → Bool
plain? x = leb 33 x && leb x 126 && not (eqb x 34) && not (eqb x 46) && not (eqb x 92)

-- three decimal digits
abbrev pub three_digits : ℕ → List ℕ
three_digits x = (48 + x / 100) ∷ (48 + x / 10 % 10) ∷ (48 + x % 10) ∷ []

-- an octet of a label: itself; a dot is `\\.`, a backslash `\\\\`, every other octet `\\DDD`
unfoldable pub spelled : ℕ → List ℕ
spelled x =
    cond (plain? x) (x ∷ [])
    (cond (eqb x 46) (ascii "\\\\.")
    (cond (eqb x 92) (ascii "\\\\\\\\") (ascii "\\\\" ++ three_digits x)))

-- a label and its dot
unfoldable pub label_text : List ℕ → List ℕ
label_text label = ended spelled 46 label

-- a name in quotes: each label with its dot; the root is `.`
unfoldable pub name_text : Name → List ℕ
name_text name = 34 ∷ cond (none? name) (ascii ".\"") (ended label_text 34 name)

-- ---- signed numbers
pub data Signed : Type 0 where
  plus : ℕ → Signed
  minus : ℕ → Signed

-- a number, with a minus before it where it is negative
unfoldable pub signed_text : Signed → List ℕ
signed_text (plus n) = decimal n
signed_text (minus n) = 45 ∷ decimal n

-- TTL is the 32 bits read as two's complement
unfoldable pub signed : ℕ → Signed
signed n = cond (ltb n 2147483648) (plus n) (minus (4294967296 - n))

-- ---- strings
-- an octet that may stand in a string
unfoldable pub printable? : ℕ → Bool
printable? x = leb 32 x && leb x 126

-- an octet of a string: quote and backslash get one backslash
unfoldable pub string_octet : ℕ → List ℕ
string_octet x = cond (eqb x 34) (ascii "\\\"") (cond (eqb x 92) (ascii "\\\\") (x ∷ []))

-- a string in quotes
unfoldable pub string_text : List ℕ → List ℕ
string_text l = 34 ∷ ended string_octet 34 l
