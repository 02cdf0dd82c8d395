use borrow.Author.Rules.{rules}
use native.Mathlib.Omega.{arith}
use Rattle.octets.specs.Lists.{each}
use Rattle.octets.specs.Overlay.{overlay}
use Rattle.octets.proofs.Writing.{hex_more}
use Rattle.octets.proofs.copy_hex.Goals as goal

pub loop-i-init : goal.loop-i-init
unfolding each overlay
loop-i-init c = search rules

pub loop-i-preserved : goal.loop-i-preserved
loop-i-preserved c =
    hex_more _ _ c.loop-i-test.true c.hex_digit.ensures c.loop-i.invariant c.hex_digit-in-loop-i.ensures (omega arith)
