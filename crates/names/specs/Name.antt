-- A name, its octets without pointers, and the faults that reading one can meet.
use Rattle.std.specs.Prelude.{Bool, ◌&&◌, List, [], ◌∷◌, ◌++◌, ℕ, leb, length}
use Rattle.octets.specs.Lists.{all, u8?}

-- a name is its labels, each a list of octets; the root has none
abbrev pub Name : Type 0
Name = List (List ℕ)

-- the name without pointers: each label after its length, and the root octet
unfoldable pub name_form : Name → List ℕ
name_form [] = 0 ∷ []
name_form (label ∷ name) = length label ∷ (label ++ name_form name)

-- a label has 1 to 63 octets; a name has at most 255 octets, root octet included
unfoldable pub label? : List ℕ → Bool
label? label = leb 1 (length label) && leb (length label) 63 && all u8? label

unfoldable pub name? : Name → Bool
name? name = all label? name && leb (length (name_form name)) 255

-- why a name, a question or a record can't be read
pub data Kind : Type 0 where
  -- a field, label or RDATA runs past the end
  cut : Kind
  -- a length octet with top bits 01 or 10
  reserved : Kind
  -- a pointer's target is not allowed
  target : Kind
  -- a name over 255 octets
  long : Kind
  -- RDATA ends inside its layout
  short : Kind
  -- octets of RDATA are left over after its layout
  surplus : Kind

-- the format's number for each
abbrev pub refusal_number : Kind → ℕ
refusal_number cut = 1
refusal_number reserved = 4
refusal_number target = 5
refusal_number long = 6
refusal_number short = 7
refusal_number surplus = 11

-- a fault, with the offset of the octet at fault, which is the place of the refusal: the length octet, the pointer's
-- first octet, the first octet of the field that doesn't fit, RDATA's first octet where it ends inside its layout, the
-- first octet left over
pub record Fault : Type 0 where
  pub kind : Kind
  pub octet : ℕ
