use borrow.Author.Rules.{rules}
use Rattle.octets.specs.Overlay.{nothing, copy_step}
use Rattle.octets.proofs.Writing.{wrote_store}
use Rattle.octets.proofs.copy.Goals as goal

pub loop-i-init : goal.loop-i-init
loop-i-init c = search (nothing, rules)

pub loop-i-preserved : goal.loop-i-preserved
loop-i-preserved c = copy_step _ c.loop-i-test.true c.loop-i.invariant (search (wrote_store, rules))
