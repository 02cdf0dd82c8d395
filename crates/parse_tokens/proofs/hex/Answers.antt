use Rattle.parse_tokens.specs.Hex.{digits_stop, digits_opened}
use Rattle.parse_tokens.proofs.hex.Goals as goal

pub returns-in_err-c-clause-digits : goal.returns-in_err-c-clause-digits
returns-in_err-c-clause-digits c = digits_stop _ c.requires c.in_err-c.ensures c.from_residual.ensures.1

pub returns-clause-digits : goal.returns-clause-digits
returns-clause-digits c = digits_opened _ c.in_ok-c.ensures c.pairs.ensures.digits
