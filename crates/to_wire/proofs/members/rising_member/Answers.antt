-- `to_wire::members::rising_member` meets its contract: a comma and a member.
use Rattle.std.proofs.Common.{rules}
use Rattle.parse_tokens.specs.Step.{found_stays}
use Rattle.parse_tokens.specs.Value.{exit_is}
use Rattle.to_wire.specs.Options.{rising_read, rising_stop}
use Rattle.to_wire.proofs.members.rising_member.Goals as goal

pub returns-in_err-c : goal.returns-in_err-c
returns-in_err-c c = rw (exit_is c.from_residual.ensures.1)
    (rising_stop c.args.least {P = λ m. Unit {0}} c.in_err-c.ensures found_stays)

pub returns-in_err-c-2 : goal.returns-in_err-c-2
returns-in_err-c-2 c = rw (exit_is c.from_residual-in_err-c-2.ensures.1)
    (rising_stop c.args.least c.in_ok-c.ensures c.in_err-c-2.ensures.found)

pub returns : goal.returns
returns c = rising_read c.args.least c.in_ok-c.ensures c.in_ok-c-2.ensures (search rules)
