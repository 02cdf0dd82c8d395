use Rattle.std.proofs.Common.{rules}
use Rattle.parse_tokens.specs.Value.{exit_is}
use Rattle.to_wire.specs.Options.{rising_start, rising_end, rising_halt, rising_less, rising_more}
use Rattle.to_wire.proofs.members.option_members.Goals as goal

pub loop-out-init : goal.loop-out-init
loop-out-init c = rising_start c.requires

pub rising_member-requires : goal.rising_member-requires
rising_member-requires c = c.loop-out.invariant.items.moves.within.0

pub returns-in_err-next : goal.returns-in_err-next
returns-in_err-next c = rw (exit_is c.from_residual.ensures.1)
    (rising_halt c.loop-out.invariant (search rules) c.in_err-next.ensures)

pub loop-out-smaller : goal.loop-out-smaller
loop-out-smaller c = rising_less c.loop-out.invariant c.in_ok-next.ensures

pub loop-out-preserved : goal.loop-out-preserved
loop-out-preserved c = rising_more c.loop-out.invariant c.in_ok-next.ensures (search rules) (search rules)

pub returns : goal.returns
returns c = rising_end c.loop-out.invariant (search rules) c.advance.ensures
