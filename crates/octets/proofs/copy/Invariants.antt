-- `octets::copy` meets its contract: after `i` turns the first `i` octets are copied.
use Prim.Native.Nat.{◌+◌}
use lib.ListN.{take}
use Rattle.octets.specs.Overlay.{Wrote}
use Rattle.octets.proofs.copy.Given as goal

abbrev pub invariant-loop-i : goal.invariant-loop-i
invariant-loop-i l = Wrote l.initial.out l.to (take l.i l.src) l.out (l.to + l.i)
