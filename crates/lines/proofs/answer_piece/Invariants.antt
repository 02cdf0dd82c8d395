-- One line a turn.
use Rattle.std.proofs.Common.{◌≡◌, ◌-◌, ◌≤◌, length}
use Rattle.line_answers.specs.Answers.{within_line}
use Rattle.lines.proofs.Taking.{Taking}
use Rattle.lines.proofs.answer_piece.Given as goal

abbrev pub invariant-loop-message : goal.invariant-loop-message
invariant-loop-message g l =
    (l.taken ≤ length l.input) × (l.size ≤ length l.out) × (length l.out ≡ length l.initial.out)
    × Taking (within_line g.P.Program.MOST g.P.Program.answer) l.initial.line l.input l.initial.out l.line l.out l.taken
    l.size

abbrev pub decreases-loop-message : goal.decreases-loop-message
decreases-loop-message g l = length l.input - l.taken
