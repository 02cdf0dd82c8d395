use Rattle.parse_tokens.specs.Number.{digits_end}
use Rattle.parse_tokens.proofs.positive.Goals as goal

pub returns : goal.returns
returns c = digits_end c.requires c.loop-d.invariant c.in_default.ensures c.advance.ensures
