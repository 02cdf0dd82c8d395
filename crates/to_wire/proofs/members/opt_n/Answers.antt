-- `to_wire::members::opt_n` meets its contract: a code and the octets of its option.
use Rattle.parse_tokens.specs.Value.{exit_is}
use Rattle.to_wire.specs.Options.{opt_read, opt_stop, opt_numberless}
use Rattle.to_wire.proofs.members.opt_n.Goals as goal

pub returns-in_err-c : goal.returns-in_err-c
returns-in_err-c c = rw (exit_is c.from_residual.ensures.1) (opt_numberless c.in_err-c.ensures)

pub returns-in_err-c-2 : goal.returns-in_err-c-2
returns-in_err-c-2 c =
    rw (exit_is c.from_residual-in_err-c-2.ensures.1) (opt_stop c.in_ok-c.ensures c.in_err-c-2.ensures)

pub returns : goal.returns
returns c = opt_read c.in_ok-c.ensures c.in_ok-c-2.ensures
