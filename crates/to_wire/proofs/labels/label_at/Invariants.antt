use Rattle.to_wire.specs.Label.{Letters}
use Prim.Native.Nat.{◌-◌}
use lib.ListN.{length}
use Rattle.to_wire.proofs.labels.label_at.Given as goal

abbrev pub invariant-loop-letter : goal.invariant-loop-letter
invariant-loop-letter l = Letters l.text l.start l.initial.out l.to l.at l.size l.out

abbrev pub decreases-loop-letter : goal.decreases-loop-letter
decreases-loop-letter l = length l.text - l.at
