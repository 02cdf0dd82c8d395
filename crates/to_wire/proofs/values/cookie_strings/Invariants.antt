-- `to_wire::values::cookie_strings` meets its contract: a string a turn.
use Rattle.std.specs.Prelude.{◌-◌, length}
use Rattle.to_wire.specs.Values.{Cookies}
use Rattle.to_wire.proofs.values.cookie_strings.Given as goal

abbrev pub invariant-loop-d : goal.invariant-loop-d
invariant-loop-d l = Cookies l.text l.initial.d l.initial.out l.d l.first l.i l.out

abbrev pub decreases-loop-d : goal.decreases-loop-d
decreases-loop-d l = length l.text - l.d.at
