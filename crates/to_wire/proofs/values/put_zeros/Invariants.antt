-- `to_wire::values::put_zeros` meets its contract: an octet a turn.
use Rattle.std.specs.Prelude.{◌+◌, replicate}
use Rattle.octets.specs.Overlay.{Wrote}
use Rattle.to_wire.proofs.values.put_zeros.Given as goal

abbrev pub invariant-loop-i : goal.invariant-loop-i
invariant-loop-i l = Wrote l.initial.out l.to (replicate l.i 0) l.out (l.to + l.i)
