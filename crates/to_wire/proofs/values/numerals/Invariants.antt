-- `to_wire::values::numerals` meets its contract: a number a turn.
use Rattle.std.specs.Prelude.{◌-◌, length}
use Rattle.to_wire.specs.Values.{Numerals}
use Rattle.to_wire.proofs.values.numerals.Given as goal

abbrev pub invariant-loop-d : goal.invariant-loop-d
invariant-loop-d g l = Numerals g.row.N l.text l.initial.d l.initial.out l.d l.first l.out

abbrev pub decreases-loop-d : goal.decreases-loop-d
decreases-loop-d g l = length l.text - l.d.at
