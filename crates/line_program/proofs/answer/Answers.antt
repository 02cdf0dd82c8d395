-- Each call prints over the octets that it takes, of which there is one at least.
use Rattle.std.proofs.Common.{refl, ◌<◌, ◌++◌, [], rules, ap, ◌∙◌, subst, length, take}
use Rattle.std.specs.Io.KnownBytes.{Appends}
use Rattle.std.proofs.KnownBytes.{Appends-nil, Appends-trans}
use Rattle.line_answers.specs.Answers.{within_line}
use Rattle.lines.specs.Programs.{most_kept}
use Rattle.lines.specs.Reading.{printed_over, so_far}
use Rattle.lines.specs.Pieces.{takes_some}
use Rattle.lines.proofs.Keeping.{answer_kept}
use Rattle.streams.proofs.Lines.{rest_after, any_err}
use Rattle.line_program.proofs.Writing.{same_part, part_after, part_before, call_printed, call_kept, printed_first, all_seen}
use Rattle.line_program.proofs.answer.Goals as goal

pub loop-rest-init : goal.loop-rest-init
unfolding so_far printed_over
loop-rest-init g c = ([], refl, c.requires, refl, Appends-nil _)

pub loop-rest-smaller : goal.loop-rest-smaller
loop-rest-smaller g c =
    let (seen, e, room, kept, written) = c.loop-rest.invariant in
    let left : 0 < length c.loop-rest.rest.now = search rules in
    let some : 0 < c.answer_piece-step.result.taken = takes_some _ c.answer_piece-step.ensures.answers left room in
    search rules

pub loop-rest-preserved : goal.loop-rest-preserved
loop-rest-preserved g c =
    let (seen, e, room, kept, written) = c.loop-rest.invariant in
    let same = answer_kept g.P.Program.MOST g.P.Program.answer g.met.P.Program.limits.0 in
    let m = c.answer_piece-step.ensures.answers in (
      seen ++ take c.answer_piece-step.result.taken c.loop-rest.rest.now,
      rest_after seen _ _ c.answer_piece-step.result.taken e,
      search rules,
      call_kept _ same _ _ seen kept m,
      subst (Appends _ _) (call_printed _ same _ _ seen kept m)
          (Appends-trans _ _ _ _ _ written c.in_ok-write_octets.ensures.all),
    )

pub returns-in_err-write_octets-clause-part : goal.returns-in_err-write_octets-clause-part
returns-in_err-write_octets-clause-part g c =
    let (seen, e, room, kept, written) = c.loop-rest.invariant in
    let same = answer_kept g.P.Program.MOST g.P.Program.answer g.met.P.Program.limits.0 in
    let m = c.answer_piece-step.ensures.answers in
    let whole = rest_after seen c.loop-rest.rest.now c.args.input.now c.answer_piece-step.result.taken e in
    let part = part_after _ _ _ _ _ written c.in_err-write_octets.ensures.some in
    let more = same_part _ _ (call_printed _ same _ _ seen kept m) part in
    any_err _ _ (same_part _ _ (printed_first _ c.args.line.now _ _ _ whole) (part_before _ _ _ _ more))

pub returns-clause-kept : goal.returns-clause-kept
returns-clause-kept g c =
    let (seen, e, room, kept, written) = c.loop-rest.invariant in
    kept ∙ ap (λ s. take most_kept (so_far c.args.line.now s)) (all_seen seen _ _ e (search rules))

pub returns-clause-written : goal.returns-clause-written
returns-clause-written g c =
    let (seen, e, room, kept, written) = c.loop-rest.invariant in
    let answer = within_line g.P.Program.MOST g.P.Program.answer in
    subst (Appends _ _) (ap (printed_over answer c.args.line.now) (all_seen seen _ _ e (search rules))) written
