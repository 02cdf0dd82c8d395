-- `to_wire::element::read_edns_head` meets its contract: the fields one after another.
use Rattle.parse_tokens.specs.Value.{exit_is, value_stays}
use Rattle.to_wire.specs.Element.{edns_head_read, edns_head_stop}
use Rattle.to_wire.proofs.element.read_edns_head.Goals as goal

pub returns-in_err-c : goal.returns-in_err-c
returns-in_err-c c = rw (exit_is c.from_residual.ensures.1)
    (edns_head_stop c.in_err-c.ensures value_stays value_stays value_stays)

pub returns-in_err-c-2 : goal.returns-in_err-c-2
returns-in_err-c-2 c = rw (exit_is c.from_residual-in_err-c-2.ensures.1)
    (edns_head_stop c.in_ok-c.ensures c.in_err-c-2.ensures value_stays value_stays)

pub returns-in_err-c-3 : goal.returns-in_err-c-3
returns-in_err-c-3 c = rw (exit_is c.from_residual-in_err-c-3.ensures.1)
    (edns_head_stop c.in_ok-c.ensures c.in_ok-c-2.ensures c.in_err-c-3.ensures value_stays)

pub returns-in_err-c-4 : goal.returns-in_err-c-4
returns-in_err-c-4 c = rw (exit_is c.from_residual-in_err-c-4.ensures.1)
    (edns_head_stop c.in_ok-c.ensures c.in_ok-c-2.ensures c.in_ok-c-3.ensures c.in_err-c-4.ensures)

pub returns : goal.returns
returns c = edns_head_read c.in_ok-c.ensures c.in_ok-c-2.ensures c.in_ok-c-3.ensures c.in_ok-c-4.ensures
