-- `to_wire::head::read_counts` meets its contract: where it stops, so do the numbers one after another.
use Rattle.parse_tokens.specs.Value.{at_exit, value_stays}
use Rattle.to_wire.specs.Head.{CountsRead, counts_read, counts_stop}
use Rattle.to_wire.proofs.head.read_counts.Goals as goal

pub returns-in_err-c : goal.returns-in_err-c
returns-in_err-c c = at_exit (CountsRead _ _) c.from_residual.ensures.1
    (counts_stop c.in_err-c.ensures value_stays value_stays value_stays)

pub returns-in_err-c-2 : goal.returns-in_err-c-2
returns-in_err-c-2 c = at_exit (CountsRead _ _) c.from_residual-in_err-c-2.ensures.1
    (counts_stop c.in_ok-c.ensures c.in_err-c-2.ensures value_stays value_stays)

pub returns-in_err-c-3 : goal.returns-in_err-c-3
returns-in_err-c-3 c = at_exit (CountsRead _ _) c.from_residual-in_err-c-3.ensures.1
    (counts_stop c.in_ok-c.ensures c.in_ok-c-2.ensures c.in_err-c-3.ensures value_stays)

pub returns-in_err-c-4 : goal.returns-in_err-c-4
returns-in_err-c-4 c = at_exit (CountsRead _ _) c.from_residual-in_err-c-4.ensures.1
    (counts_stop c.in_ok-c.ensures c.in_ok-c-2.ensures c.in_ok-c-3.ensures c.in_err-c-4.ensures)

pub returns : goal.returns
returns c = counts_read c.in_ok-c.ensures c.in_ok-c-2.ensures c.in_ok-c-3.ensures c.in_ok-c-4.ensures
