use Rattle.to_wire.specs.String.{Chars}
use Prim.Native.Nat.{◌-◌}
use lib.ListN.{length}
use Rattle.to_wire.proofs.labels.chars.Given as goal

abbrev pub invariant-loop-d : goal.invariant-loop-d
invariant-loop-d l = Chars l.text l.initial.d l.initial.out l.d l.out

abbrev pub decreases-loop-d : goal.decreases-loop-d
decreases-loop-d l = length l.text - l.d.at
