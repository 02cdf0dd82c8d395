-- Spellings at the limits of the format's rules, one row each, and one theorem over each table.
use mathlib.Core.Path.{◌≡◌, refl}
use mathlib.Core.List.{List, [], ◌∷◌, map}
use Prim.Native.Nat.{ℕ}
use Prim.Native.String.{String}
use Rattle.octets.specs.Lists.{ascii, hexed}
use Rattle.octets.specs.Decimal.{decimal}
use Rattle.spelling.specs.Spelling.{plain?, spelled, signed, signed_text, string_octet, string_text}
use Rattle.spelling.specs.Form.{within, form_text}

-- the texts that rows give, and those that they are to give
abbrev pub Right : {A : Type 0} → (A → List ℕ) → List (A × String) → Type 0
Right f rows = map (λ row. f row.0) rows ≡ map (λ row. ascii row.1) rows

-- octets of a label: those next to a limit, and the three exceptions
unfoldable pub octets : List (ℕ × String)
octets =
    (0, "\\\\000")
    ∷ (32, "\\\\032")
    ∷ (33, "!")
    ∷ (34, "\\\\034")
    ∷ (35, "#")
    ∷ (46, "\\\\.")
    ∷ (92, "\\\\\\\\")
    ∷ (126, "~")
    ∷ (127, "\\\\127")
    ∷ (255, "\\\\255")
    ∷ []

pub octets_right : Right spelled octets
unfolding octets spelled plain?
octets_right = refl

-- octets of names: the root, labels, a dot and a quote within a label; a label cut short
unfoldable pub forms : List (List ℕ × String)
forms =
    (hexed "00", "\".\"")
    ∷ (hexed "016100", "\"a.\"")
    ∷ (hexed "03612E6202222000", "\"a\\\\.b.\\\\034\\\\032.\"")
    ∷ (hexed "036162", "\"ab.\"")
    ∷ []

pub forms_right : Right form_text forms
unfolding forms form_text within spelled plain?
forms_right = refl

-- TTLs next to the sign's limits
unfoldable pub ttls : List (ℕ × String)
ttls = (0, "0") ∷ (2147483647, "2147483647") ∷ (2147483648, "-2147483648") ∷ (4294967295, "-1") ∷ []

pub ttls_right : Right (λ n. signed_text (signed n)) ttls
unfolding ttls signed signed_text decimal
ttls_right = refl

-- strings
unfoldable pub strings : List (List ℕ × String)
strings = ([], "\"\"") ∷ (ascii "a\"b\\c.", "\"a\\\"b\\\\c.\"") ∷ []

pub strings_right : Right string_text strings
unfolding strings string_text string_octet
strings_right = refl
