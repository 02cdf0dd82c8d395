-- A line in hexadecimal, in the words of docs/FORMAT.md, and what `unhex` promises.
use Rattle.std.specs.Prelude.{◌≡◌, Bool, cond, ◌&&◌, List, [], ◌∷◌, ℕ, ◌+◌, ◌-◌, ◌*◌, leb, ltb, length}
use Rattle.std.specs.Prelude.{Option, None, Some}
use Rattle.octets.specs.Decimal.{digit?}
use Rattle.octets.specs.Hexadecimal.{capital?}
use Rattle.octets.specs.Answer.{overwritten}
use Rattle.octets.specs.Overlay.{Wrote}

-- a digit from a to f
abbrev pub below16? : ℕ → Bool
below16? c = leb 97 c && ltb c 103

-- the value of a digit in either letter case
unfoldable pub hex_value : ℕ → Option ℕ
hex_value c = cond (digit? c) (Some (c - 48))
    (cond (capital? c) (Some (c - 55)) (cond (below16? c) (Some (c - 87)) None))

-- the octet of two digits, before the octets of the others
abbrev pub octet_then : Option ℕ → Option ℕ → Option (List ℕ) → Option (List ℕ)
octet_then (Some high) (Some low) (Some octets) = Some ((high * 16 + low) ∷ octets)
octet_then (Some high) (Some low) None = None
octet_then (Some high) None octets = None
octet_then None low octets = None

-- the octets of a line of digits, two digits an octet; an odd number of digits or a non-digit has none
unfoldable pub unhexed : List ℕ → Option (List ℕ)
unhexed [] = Some []
unhexed (c ∷ []) = None
unhexed (c ∷ d ∷ line) = octet_then (hex_value c) (hex_value d) (unhexed line)

-- ---- what `unhex` does
-- the number of octets, or that there are none
abbrev pub hex_answer : Option (List ℕ) → Option ℕ
hex_answer (Some octets) = Some (length octets)
hex_answer None = None

-- the buffer has the octets from its first on; without octets it stays as it was
abbrev pub hex_left : Option (List ℕ) → List ℕ → List ℕ
hex_left (Some octets) buffer = overwritten octets buffer
hex_left None buffer = buffer

pub record Unhexed (line before : List ℕ) (answer : Option ℕ) (after : List ℕ) : Type 0 where
  pub answers : answer ≡ hex_answer (unhexed line)
  pub leaves : after ≡ hex_left (unhexed line) before

-- ---- what the function below it does
-- a line has n octets, and they are written where there is room
pub record Spells (line before after : List ℕ) (n : ℕ) : Type 0 where
  pub octets : List ℕ
  pub spelled : unhexed line ≡ Some octets
  pub wrote : Wrote before 0 octets after n
