use Rattle.std.proofs.Common.{rules}
use Rattle.parse_tokens.specs.Value.{exit_is}
use Rattle.to_wire.specs.String.{chars_stop, chars_end}
use Rattle.to_wire.proofs.labels.chars.Goals as goal

pub returns-in_err-letter : goal.returns-in_err-letter
returns-in_err-letter c =
    rw (exit_is c.from_residual.ensures.1) (chars_stop c.loop-d.invariant (search rules) c.in_err-letter.ensures)

pub returns : goal.returns
returns c = chars_end c.loop-d.invariant (search rules) c.advance-2.ensures
