use Prim.Native.Nat.{◌-◌}
use lib.ListN.{length}
use Rattle.to_wire.specs.Sections.{Gathered}
use Rattle.to_wire.proofs.entries.elements.Given as goal

abbrev pub invariant-loop-element : goal.invariant-loop-element
invariant-loop-element l =
    Gathered l.element l.rcode l.text l.initial.d l.initial.out l.d l.first l.section l.out

abbrev pub decreases-loop-element : goal.decreases-loop-element
decreases-loop-element l =
    length l.text - l.d.at
