-- Some octets are read, what is printed over them is written, and what may be needed of their line is kept.
use Rattle.std.proofs.Common.{◌≡◌, ◌≤◌, ◌<◌, List, ℕ, [], length, take}
use Rattle.std.specs.Io.KnownBytes.{Appends, Consumes}
use Rattle.line_answers.specs.Answers.{within_line}
use Rattle.lines.specs.Programs.{most_kept, answer_room}
use Rattle.lines.specs.Reading.{printed_over, so_far}
use Rattle.line_program.proofs.answer_pieces.Given as goal

abbrev pub invariant-loop : goal.invariant-loop
invariant-loop g l =
    (seen : List ℕ) × (answer_room ≤ length l.out) × (0 < length l.input)
    × (take most_kept l.line ≡ take most_kept (so_far [] seen))
    × Consumes (g.R.Read.remaining l.initial.reader) (g.R.Read.remaining l.reader) seen
    × Appends (g.W.Write.contents l.initial.writer) (g.W.Write.contents l.writer)
    (printed_over (within_line g.P.Program.MOST g.P.Program.answer) [] seen)
