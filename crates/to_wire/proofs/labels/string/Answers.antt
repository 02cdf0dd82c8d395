use Rattle.parse_tokens.specs.Step.{found_stays}
use Rattle.parse_tokens.specs.Value.{exit_is}
use Rattle.to_wire.specs.String.{string_opened}
use Rattle.to_wire.proofs.labels.string.Goals as goal

pub returns-in_err-c : goal.returns-in_err-c
returns-in_err-c c =
    rw (exit_is c.from_residual.ensures.1) (string_opened c.in_err-c.ensures found_stays)

pub returns : goal.returns
returns c = string_opened c.in_ok-c.ensures c.chars.ensures
