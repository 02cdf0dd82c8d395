-- `to_wire::members::option_members` meets its contract: a loop over the members.
use Prim.Native.Nat.{◌-◌}
use lib.ListN.{length}
use Rattle.to_wire.specs.Options.{Rising}
use Rattle.to_wire.proofs.members.option_members.Given as goal

abbrev pub invariant-loop-out : goal.invariant-loop-out
invariant-loop-out l = Rising l.text l.initial.d l.initial.out l.d l.least l.out

abbrev pub decreases-loop-out : goal.decreases-loop-out
decreases-loop-out l = length l.text - l.d.at
