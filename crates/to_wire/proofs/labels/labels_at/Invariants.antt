use Rattle.to_wire.specs.Name.{LabelsLoop}
use Prim.Native.Nat.{◌-◌}
use lib.ListN.{length}
use Rattle.to_wire.proofs.labels.labels_at.Given as goal

abbrev pub invariant-loop-end : goal.invariant-loop-end
invariant-loop-end l = LabelsLoop l.text l.start l.initial.out l.to l.at l.size l.out

abbrev pub decreases-loop-end : goal.decreases-loop-end
decreases-loop-end l = length l.text - l.at
