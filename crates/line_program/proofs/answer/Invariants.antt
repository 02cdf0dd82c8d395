-- What was written is what is printed over the octets that were taken, and of their line what may be needed is kept.
use Rattle.std.proofs.Common.{◌≡◌, ◌≤◌, ◌++◌, ℕ, List, length, take}
use Rattle.std.specs.Io.KnownBytes.{Appends}
use Rattle.line_answers.specs.Answers.{within_line}
use Rattle.lines.specs.Programs.{most_kept, answer_room}
use Rattle.lines.specs.Reading.{printed_over, so_far}
use Rattle.line_program.proofs.answer.Given as goal

abbrev pub invariant-loop-rest : goal.invariant-loop-rest
invariant-loop-rest g l =
    (seen : List ℕ) × (seen ++ l.rest ≡ l.input) × (answer_room ≤ length l.out)
    × (take most_kept l.line ≡ take most_kept (so_far l.initial.line seen))
    × Appends (g.W.Write.contents l.initial.writer) (g.W.Write.contents l.writer)
    (printed_over (within_line g.P.Program.MOST g.P.Program.answer) l.initial.line seen)

abbrev pub decreases-loop-rest : goal.decreases-loop-rest
decreases-loop-rest g l = length l.rest
