-- The lines of an input and what a program prints for them, in the words of docs/FORMAT.md.
use Rattle.std.specs.Prelude.{cond, List, [], ◌∷◌, ◌++◌, ℕ, eqb}
use Rattle.octets.specs.Lists.{none?, each}
use Rattle.line_answers.specs.Answers.{printed}

-- 10 ends a line; a last line without it counts if it isn't empty
unfoldable pub lines_from : List ℕ → List ℕ → List (List ℕ)
lines_from line [] = cond (none? line) [] (line ∷ [])
lines_from line (c ∷ input) = cond (eqb c 10) (line ∷ lines_from [] input) (lines_from (line ++ (c ∷ [])) input)

abbrev pub lines_of : List ℕ → List (List ℕ)
lines_of = lines_from []

-- the answer to each line, and 10 after it
unfoldable pub program_output : (List ℕ → List ℕ) → List ℕ → List ℕ
program_output answer input = each (printed answer) (lines_of input)
