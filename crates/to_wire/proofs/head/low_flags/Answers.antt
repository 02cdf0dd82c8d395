-- `to_wire::head::low_flags` meets its contract: where it stops, so do the numbers one after another.
use Rattle.parse_tokens.specs.Value.{at_exit, value_stays}
use Rattle.to_wire.specs.Head.{LowRead, low_stop}
use Rattle.to_wire.proofs.head.low_flags.Goals as goal

pub returns-in_err-c : goal.returns-in_err-c
returns-in_err-c c = at_exit (LowRead _ _) c.from_residual.ensures.1
    (low_stop c.in_err-c.ensures value_stays value_stays value_stays value_stays)

pub returns-in_err-c-2 : goal.returns-in_err-c-2
returns-in_err-c-2 c = at_exit (LowRead _ _) c.from_residual-in_err-c-2.ensures.1
    (low_stop c.in_ok-c.ensures c.in_err-c-2.ensures.row_read value_stays value_stays value_stays)

pub returns-in_err-c-3 : goal.returns-in_err-c-3
returns-in_err-c-3 c = at_exit (LowRead _ _) c.from_residual-in_err-c-3.ensures.1
    (low_stop c.in_ok-c.ensures c.in_ok-c-2.ensures.row_read c.in_err-c-3.ensures value_stays value_stays)

pub returns-in_err-c-4 : goal.returns-in_err-c-4
returns-in_err-c-4 c = at_exit (LowRead _ _) c.from_residual-in_err-c-4.ensures.1
    (low_stop c.in_ok-c.ensures c.in_ok-c-2.ensures.row_read c.in_ok-c-3.ensures c.in_err-c-4.ensures value_stays)

pub returns-in_err-c-5 : goal.returns-in_err-c-5
returns-in_err-c-5 c = at_exit (LowRead _ _) c.from_residual-in_err-c-5.ensures.1
    (low_stop c.in_ok-c.ensures c.in_ok-c-2.ensures.row_read c.in_ok-c-3.ensures c.in_ok-c-4.ensures c.in_err-c-5.ensures)
