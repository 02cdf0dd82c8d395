-- A run of a line program: calls that take its input piece by piece. Together they write what the program is to print.
use Rattle.std.specs.Prelude.{◌≡◌, false, ℕ, ◌≤◌, length}
use mathlib.Core.List.{List, [], ◌∷◌}
use Rattle.std.proofs.Math.ListN.{take}
use Rattle.octets.specs.Lists.{none?, each}
use Rattle.lines.specs.Programs.{answer_room}
use Rattle.lines.specs.Pieces.{Answers}

-- a call: the line kept before it, its piece of the input and its buffer; the line and the buffer after it; how many
-- octets it took and wrote
pub record PieceCall : Type 0 where
  pub line : List ℕ
  pub piece : List ℕ
  pub out : List ℕ
  pub line' : List ℕ
  pub out' : List ℕ
  pub taken : ℕ
  pub size : ℕ

abbrev pub Meets : (List ℕ → List ℕ) → PieceCall → Type 0
Meets answer c = Answers answer c.line c.piece c.out c.line' c.out' c.taken c.size

-- calls one after another: each is given the line that the one before it kept
abbrev pub Chained : (List ℕ → List ℕ) → List ℕ → List PieceCall → List ℕ → Type 0
Chained answer line [] line' = line ≡ line'
Chained answer line (c ∷ cs) line' = (line ≡ c.line) × Meets answer c × Chained answer c.line' cs line'

-- what they took and what they wrote, in order
abbrev pub input_of : List PieceCall → List ℕ
input_of = each (λ c. take c.taken c.piece)

abbrev pub output_of : List PieceCall → List ℕ
output_of = each (λ c. take c.size c.out')

-- the end of the input: no call where no line is left, else one that ends the line
abbrev pub Ended : (List ℕ → List ℕ) → List ℕ → List PieceCall → Type 0
Ended answer line [] = line ≡ []
Ended answer line (c ∷ cs) = (none? line ≡ false) × (line ≡ c.line) × (c.piece ≡ 10 ∷ [])
    × (answer_room ≤ length c.out) × Meets answer c × (cs ≡ [])
