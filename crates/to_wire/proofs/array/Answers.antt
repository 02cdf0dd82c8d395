-- `to_wire::array` meets its contract: a title and an array.
use Rattle.parse_tokens.specs.Value.{exit_is}
use Rattle.to_wire.specs.Whole.{array_read, array_stop}
use Rattle.to_wire.proofs.array.Goals as goal

pub returns-in_err-c : goal.returns-in_err-c
returns-in_err-c c = rw (exit_is c.from_residual.ensures.1)
    (array_stop c.args.element c.args.rcode c.in_err-c.ensures)

pub returns : goal.returns
returns c = array_read c.args.element c.args.rcode c.in_ok-c.ensures c.read_section.ensures
