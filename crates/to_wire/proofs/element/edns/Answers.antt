-- `to_wire::element::edns` meets its contract: the fields, the options, and what is judged and written of them.
use Rattle.parse_tokens.specs.Value.{exit_is}
use Rattle.to_wire.specs.Element.{edns_stop, options_stop, edns_read}
use Rattle.to_wire.proofs.element.edns.Goals as goal

pub returns-in_err-c : goal.returns-in_err-c
returns-in_err-c c = rw (exit_is c.from_residual.ensures.1) (edns_stop c.args.rcode c.in_err-c.ensures)

pub returns-in_err-end : goal.returns-in_err-end
returns-in_err-end c = rw (exit_is c.from_residual-in_err-end.ensures.1)
    (options_stop c.args.rcode c.in_ok-c.ensures c.reserve.ensures c.in_err-end.ensures)

pub returns : goal.returns
returns c = edns_read c.args.rcode c.in_ok-c.ensures c.reserve.ensures c.in_ok-end.ensures c.edns_fits.ensures c.demand-end.ensures
    c.put_edns_head.ensures
