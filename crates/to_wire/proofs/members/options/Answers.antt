-- `to_wire::members::options` meets its contract: the members and the last brace.
use Rattle.parse_tokens.specs.Cursor.{passed_stays}
use Rattle.parse_tokens.specs.Value.{exit_is}
use Rattle.to_wire.specs.Options.{options_read}
use Rattle.to_wire.proofs.members.options.Goals as goal

pub returns-in_err-c : goal.returns-in_err-c
returns-in_err-c c = rw (exit_is c.from_residual.ensures.1) (options_read c.in_err-c.ensures passed_stays)

pub returns : goal.returns
returns c = options_read c.in_ok-c.ensures c.literal.ensures
