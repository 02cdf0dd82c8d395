-- What is printed over the octets that were read is written in turn.
use Rattle.std.proofs.Common.{refl, ◌<◌, [], ◌++◌, rules, sym, subst, length, take}
use Rattle.std.specs.Io.KnownBytes.{Appends}
use Rattle.std.proofs.KnownBytes.{Appends-kept, Appends-nil, Appends-trans, Consumes-kept, Consumes-nil, Consumes-trans}
use Rattle.std.proofs.lemmas.Result.{err_from_is_err_and}
use Rattle.line_answers.specs.Answers.{within_line}
use Rattle.lines.specs.Reading.{printed_over, so_far, output_steps}
use Rattle.lines.proofs.Keeping.{answer_kept}
use Rattle.line_program.proofs.Writing.{same_part, part_after, part_before, more_printed, more_kept, output_ended, consumed_end}
use Rattle.line_program.proofs.Writing.{at_read, at_write, closed_all, closed_part}
use Rattle.line_program.proofs.answer_pieces.Goals as goal

pub loop-init : goal.loop-init
unfolding so_far printed_over
loop-init g c = rw c.new-line.ensures ([], c.requires.1, c.requires.0, refl, Consumes-nil _, Appends-nil _)

pub returns-in_err-got-clause-part : goal.returns-in_err-got-clause-part
returns-in_err-got-clause-part g c =
    let p = err_from_is_err_and c.from_residual.result c.from_residual.ensures.1 in
    let (seen, room, piece, kept, consumed, written) = c.loop.invariant in
    let f = c.in_err-got.ensures in
    rw (p.1, p.2) (seen, Consumes-kept _ _ _ _ consumed f.bytes, at_read _ _ _ seen f.retried.call_is written)

pub returns-in_err-answer_last-clause-part : goal.returns-in_err-answer_last-clause-part
returns-in_err-answer_last-clause-part g c =
    let r = c.from_residual-in_err-answer_last.result in
    let p = err_from_is_err_and r c.from_residual-in_err-answer_last.ensures.1 in
    let (seen, room, piece, kept, consumed, written) = c.loop.invariant in
    let same = answer_kept g.P.Program.MOST g.P.Program.answer g.met.P.Program.limits.0 in
    let f = c.in_err-answer_last.ensures in
    rw (p.1, p.2) (
      seen,
      consumed_end _ _ _ seen _ _ c.if-got-eq0.true consumed c.in_ok-got.ensures.bytes.0,
      at_write _ _ _ seen f.retried.call_is
          (same_part _ _ (output_ended _ same _ seen kept) (part_after _ _ _ _ _ written f.part)),
    )

pub returns-then-got-eq0-clause-all : goal.returns-then-got-eq0-clause-all
returns-then-got-eq0-clause-all g c =
    let (seen, room, piece, kept, consumed, written) = c.loop.invariant in
    let same = answer_kept g.P.Program.MOST g.P.Program.answer g.met.P.Program.limits.0 in
    let all = Appends-trans _ _ _ _ _ written c.in_ok-answer_last.ensures.written in
    let some : 0 < length c.read_piece.new.input = search rules in
    let taken = consumed_end _ _ _ seen _ _ c.if-got-eq0.true consumed c.in_ok-got.ensures.bytes.0 in
    closed_all _ _ _ _ _ _ seen taken (c.in_ok-got.ensures.bytes.1 c.if-got-eq0.true some)
    (subst (Appends _ _) (output_ended _ same _ seen kept) (Appends-kept _ _ _ _ all c.close_output.ensures.kept))

pub returns-then-got-eq0-clause-part : goal.returns-then-got-eq0-clause-part
returns-then-got-eq0-clause-part g c =
    let (seen, room, piece, kept, consumed, written) = c.loop.invariant in
    let same = answer_kept g.P.Program.MOST g.P.Program.answer g.met.P.Program.limits.0 in
    let all = Appends-trans _ _ _ _ _ written c.in_ok-answer_last.ensures.written in
    let output = subst (Appends _ _) (output_ended _ same _ seen kept)
    (Appends-kept _ _ _ _ all c.close_output.ensures.kept) in
    let taken = consumed_end _ _ _ seen _ _ c.if-got-eq0.true consumed c.in_ok-got.ensures.bytes.0 in
    closed_part _ _ _ _ _ _ seen taken output c.close_output.ensures.call

pub returns-in_err-answer-clause-part : goal.returns-in_err-answer-clause-part
returns-in_err-answer-clause-part g c =
    let p = err_from_is_err_and c.from_residual-in_err-answer.result c.from_residual-in_err-answer.ensures.1 in
    let (seen, room, piece, kept, consumed, written) = c.loop.invariant in
    let same = answer_kept g.P.Program.MOST g.P.Program.answer g.met.P.Program.limits.0 in
    let answer = within_line g.P.Program.MOST g.P.Program.answer in
    let f = c.in_err-answer.ensures in
    let t = take c.in_ok-got.got c.read_piece.new.input in
    let more = same_part _ _ (more_printed _ same [] _ seen t kept) (part_after _ _ _ _ _ written f.part) in
    rw (p.1, p.2) (
      seen ++ t,
      Consumes-trans _ _ _ _ _ consumed c.in_ok-got.ensures.bytes.0,
      at_write _ _ _ (seen ++ t) f.retried.call_is
          (same_part _ _ (sym (output_steps answer (seen ++ t))) (part_before _ _ _ _ more)),
    )

pub loop-preserved : goal.loop-preserved
loop-preserved g c =
    let (seen, room, piece, kept, consumed, written) = c.loop.invariant in
    let same = answer_kept g.P.Program.MOST g.P.Program.answer g.met.P.Program.limits.0 in
    let t = take c.in_ok-got.got c.read_piece.new.input in
    let all = Appends-trans _ _ _ _ _ written c.in_ok-answer.ensures.written in (
      seen ++ t,
      search rules,
      search rules,
      more_kept _ same [] _ seen t _ kept c.in_ok-answer.ensures.kept,
      Consumes-trans _ _ _ _ _ consumed c.in_ok-got.ensures.bytes.0,
      subst (Appends _ _) (more_printed _ same [] _ seen t kept) all,
    )

pub returns-clause-part : goal.returns-clause-part
returns-clause-part g c =
    let (seen, room, piece, kept, consumed, written) = c.loop.invariant in
    rw c.failed.ensures (seen, consumed, written)
