-- The answer, and the end of the line.
use Rattle.std.proofs.Common.{rules, ◌<◌, ◌≤◌, length}
use Rattle.octets.specs.Overlay.{then}
use Rattle.line_answers.specs.Answers.{printed}
use Rattle.line_answers.proofs.Limits.{over_limit, over_left, in_limit, in_left}
use Rattle.line_answers.proofs.put_line.Goals as goal
use Rattle.line_answers.proofs.put_line.Goals.{then-line-MOST, else-line-MOST}

pub returns-clause-wrote : goal.returns-clause-wrote
unfolding printed
returns-clause-wrote g c =
    elim c.if-line-MOST.branch [
      | then-line-MOST w ↦
          let long : g.P.Program.MOST < length c.args.line.now = search rules in
          then (over_limit _ _ _ long w.refuse-n.ensures.wrote) (rw (w.text-is, w.n-is) at c.put.ensures)
      | else-line-MOST w ↦
          let short : length c.args.line.now ≤ g.P.Program.MOST = search rules in
          then (in_limit _ _ _ short w.put_answer-n.ensures.wrote) (rw (w.text-is, w.n-is) at c.put.ensures)
    ]

pub returns-clause-message_after : goal.returns-clause-message_after
returns-clause-message_after g c =
    elim c.if-line-MOST.branch [
      | then-line-MOST w ↦
          let long : g.P.Program.MOST < length c.args.line.now = search rules in
          rw w.message-is (over_left _ _ _ _ long)
      | else-line-MOST w ↦
          let short : length c.args.line.now ≤ g.P.Program.MOST = search rules in
          rw w.message-is (in_left _ _ _ _ short w.put_answer-n.ensures.message_after)
    ]
