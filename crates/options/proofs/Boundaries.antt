-- Option values at the limits of their shapes, one row each, and one theorem over the table.
use mathlib.Core.Path.{◌≡◌, refl}
use mathlib.Core.Bool.{Bool, true, false}
use mathlib.Core.List.{List, [], ◌∷◌, map}
use Prim.Native.Nat.{ℕ}
use lib.ListN.{replicate}
use Rattle.octets.specs.Lists.{hexed, lookup}
use Rattle.spelling.specs.Spelling.{printable?}
use Rattle.options.specs.Options.{rows, syntax_of, words, shape, Member, known, other, member_of}

-- whether an option of this code and value takes its row's syntax
abbrev pub known? : Member → Bool
known? (known code v) = true
known? (other code value) = false

pub record Shape : Type 0 where
  pub code : ℕ
  pub value : List ℕ
  pub known : Bool

unfoldable pub shapes : List Shape
shapes =
    -- codes without a row
    record { code = 1; value = []; known = false }
    ∷ record { code = 8; value = []; known = false }
    ∷ record { code = 13; value = []; known = false }
    -- NSID, DAU, PADDING: any value
    ∷ record { code = 3; value = []; known = true }
    ∷ record { code = 5; value = []; known = true }
    ∷ record { code = 12; value = []; known = true }
    -- EXPIRE: 0 or 4 octets
    ∷ record { code = 9; value = []; known = true }
    ∷ record { code = 9; value = replicate 3 0; known = false }
    ∷ record { code = 9; value = replicate 4 0; known = true }
    ∷ record { code = 9; value = replicate 5 0; known = false }
    -- COOKIE: 8 octets, or 16 to 40
    ∷ record { code = 10; value = []; known = false }
    ∷ record { code = 10; value = replicate 7 0; known = false }
    ∷ record { code = 10; value = replicate 8 0; known = true }
    ∷ record { code = 10; value = replicate 9 0; known = false }
    ∷ record { code = 10; value = replicate 15 0; known = false }
    ∷ record { code = 10; value = replicate 16 0; known = true }
    ∷ record { code = 10; value = replicate 40 0; known = true }
    ∷ record { code = 10; value = replicate 41 0; known = false }
    -- KEEPALIVE: 2 octets
    ∷ record { code = 11; value = []; known = false }
    ∷ record { code = 11; value = replicate 2 0; known = true }
    ∷ record { code = 11; value = replicate 3 0; known = false }
    -- KEYTAG: an even number of octets
    ∷ record { code = 14; value = []; known = true }
    ∷ record { code = 14; value = replicate 3 0; known = false }
    ∷ record { code = 14; value = replicate 4 0; known = true }
    -- EDE: 2 octets and text of 0x20 to 0x7E
    ∷ record { code = 15; value = replicate 1 0; known = false }
    ∷ record { code = 15; value = replicate 2 0; known = true }
    ∷ record { code = 15; value = hexed "00001F"; known = false }
    ∷ record { code = 15; value = hexed "0000207E"; known = true }
    ∷ record { code = 15; value = hexed "0000207F"; known = false }
    ∷ []

pub shapes_hold : map (λ (s : Shape). known? (member_of (record { code = s.code; value = s.value }))) shapes ≡ map
    (λ (s : Shape). s.known) shapes
unfolding shapes lookup rows syntax_of printable? words shape member_of
shapes_hold = refl
