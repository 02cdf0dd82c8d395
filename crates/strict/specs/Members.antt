-- The option of a member, and which members have one.
use Rattle.std.specs.Prelude.{Bool, true, false, not, ◌&&◌, List, [], ◌∷◌, ◌++◌, ℕ, leb, eqb, length, replicate}
use Rattle.std.proofs.Math.Option.{Option, none, some}
use Rattle.octets.specs.Lists.{all, none?, u8?, u16?, u32?, each, present?}
use Rattle.octets.specs.Fields.{be16, be32}
use Rattle.options.specs.Options.{Syntax, hex_object, octet_list, expiry, hex_list, word, padding, word_list, extended_error}
use Rattle.options.specs.Options.{unlisted, Value, syntax_of, zero?, shape, EdnsOption, Member, known, other}

-- the octets of a value
abbrev pub optional : Option (List ℕ) → List ℕ
optional none = []
optional (some l) = l

abbrev pub expiry_octets : Option ℕ → List ℕ
expiry_octets none = []
expiry_octets (some n) = be32 n

abbrev pub padding_octets : ℕ → Option (List ℕ) → List ℕ
padding_octets n none = replicate n 0
padding_octets n (some hex) = hex

unfoldable pub octets_of : (syntax : Syntax) → Value syntax → List ℕ
octets_of hex_object hex = hex
octets_of octet_list l = l
octets_of expiry n = expiry_octets n
octets_of hex_list l = each (λ hex. hex) l
octets_of word n = be16 n
octets_of padding p = padding_octets p.0 p.1
octets_of word_list l = each be16 l
octets_of extended_error e = be16 e.0 ++ optional e.1
octets_of unlisted u = []

-- Whether a value in the grammar can be that of an option: numbers in range; COOKIE 8 octets, then none or one of 8 to
-- 32; a PADDING `LENGTH` that agrees with its `HEX`, which is not all zero; a `TEXT` that is not empty.
abbrev pub expiry? : Option ℕ → Bool
expiry? none = true
expiry? (some n) = u32? n

abbrev pub cookie? : List (List ℕ) → Bool
cookie? [] = false
cookie? (client ∷ []) = eqb (length client) 8
cookie? (client ∷ server ∷ []) = eqb (length client) 8 && leb 8 (length server) && leb (length server) 32
cookie? (client ∷ server ∷ third ∷ l) = false

abbrev pub padding? : ℕ → Option (List ℕ) → Bool
padding? n none = true
padding? n (some hex) = eqb (length hex) n && not (all zero? hex)

abbrev pub text? : Option (List ℕ) → Bool
text? none = true
text? (some text) = not (none? text)

unfoldable pub value? : (syntax : Syntax) → Value syntax → Bool
value? hex_object hex = true
value? octet_list l = all u8? l
value? expiry n = expiry? n
value? hex_list l = cookie? l
value? word n = u16? n
value? padding p = padding? p.0 p.1
value? word_list l = all u16? l
value? extended_error e = u16? e.0 && text? e.1
value? unlisted u = false

-- the option of a member
unfoldable pub option_of : Member → EdnsOption
option_of (known code v) = record { code = code; value = octets_of (syntax_of code) v }
option_of (other code hex) = record { code = code; value = hex }

-- a member that is one of an option: `OPTn` only where the value doesn't have the shape of a row of that code
unfoldable pub member? : Member → Bool
member? (known code v) = value? (syntax_of code) v
member? (other code hex) = u16? code && not (present? (shape (syntax_of code) hex))
