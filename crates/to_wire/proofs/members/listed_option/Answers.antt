-- `to_wire::members::listed_option` meets its contract: a value, with its code and length before it.
use Rattle.parse_tokens.specs.Value.{exit_is}
use Rattle.to_wire.specs.Options.{known_value, known_value_stop}
use Rattle.to_wire.proofs.members.listed_option.Goals as goal

pub returns-in_err-end : goal.returns-in_err-end
returns-in_err-end c = rw (exit_is c.from_residual.ensures.1)
    (known_value_stop c.args.code c.reserve.ensures c.in_err-end.ensures)

pub returns : goal.returns
returns c = known_value c.args.code c.reserve.ensures c.requires.1 c.in_ok-end.ensures c.put_option_head.ensures
