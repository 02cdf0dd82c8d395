use Rattle.std.proofs.Common.{rules}
use Rattle.parse_tokens.specs.Value.{exit_is}
use Rattle.to_wire.specs.Name.{labels_stop, labels_more, labels_end}
use Rattle.to_wire.proofs.labels.labels_at.Goals as goal

pub returns-in_err-end : goal.returns-in_err-end
returns-in_err-end c = rw (exit_is c.from_residual.ensures.1)
    (labels_stop c.loop-end.invariant (rw c.unwrap_or.ensures at c.in_err-end.ensures))

pub loop-end-preserved : goal.loop-end-preserved
loop-end-preserved c = rw c.grown-size.ensures
    (labels_more c.loop-end.invariant (rw c.unwrap_or.ensures at c.in_ok-end.ensures) (search rules))

pub returns-then-eq : goal.returns-then-eq
returns-then-eq c = rw c.grown-size.ensures
    (labels_end c.loop-end.invariant (rw c.unwrap_or.ensures at c.in_ok-end.ensures) (search rules))
