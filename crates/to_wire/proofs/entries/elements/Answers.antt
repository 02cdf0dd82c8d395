-- `to_wire::entries::elements` meets its contract: the entries, turn by turn.
use Rattle.std.proofs.Common.{rules}
use Rattle.parse_tokens.specs.Value.{exit_is}
use Rattle.to_wire.specs.Sections.{gathered_less, inside_end, inside_stop}
use Rattle.to_wire.proofs.entries.elements.Goals as goal

pub returns-in_err-next : goal.returns-in_err-next
returns-in_err-next c = rw (exit_is c.from_residual.ensures.1)
    (inside_stop c.loop-element.invariant (search rules) c.in_err-next.ensures)

pub loop-element-smaller : goal.loop-element-smaller
loop-element-smaller c = gathered_less c.loop-element.invariant c.in_ok-next.ensures

pub returns : goal.returns
returns c = inside_end c.loop-element.invariant (search rules) c.advance.ensures
