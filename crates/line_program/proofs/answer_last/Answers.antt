-- A newline ends the line that is left, and nothing is printed where none is.
use Rattle.std.proofs.Common.{◌<◌, rules, sym, subst, length}
use Rattle.std.specs.Io.KnownBytes.{Appends}
use Rattle.std.proofs.KnownBytes.{Appends-nil}
use Rattle.line_answers.specs.Answers.{within_line}
use Rattle.streams.proofs.Lines.{same_whole, same_part}
use Rattle.line_program.proofs.Writing.{nothing_left, line_ended}
use Rattle.line_program.proofs.answer_last.Goals as goal

pub returns-then-is_empty-clause-written : goal.returns-then-is_empty-clause-written
returns-then-is_empty-clause-written g c =
    let answer = within_line g.P.Program.MOST g.P.Program.answer in
    subst (Appends _ _) (sym (nothing_left answer c.args.line.now (search rules))) (Appends-nil _)

pub returns-clause-written : goal.returns-clause-written
returns-clause-written g c =
    let some : 0 < length c.args.line.now = search rules in
    same_whole _ _ _ (line_ended (within_line g.P.Program.MOST g.P.Program.answer) _ some) c.answer.ensures.written

pub returns-clause-part : goal.returns-clause-part
returns-clause-part g c =
    let some : 0 < length c.args.line.now = search rules in
    same_part _ _ _ (line_ended (within_line g.P.Program.MOST g.P.Program.answer) _ some) c.answer.ensures.part
