-- `octets::copy_hex` meets its contract: after `i` turns the first `i` octets are written.
use Prim.Native.Nat.{◌+◌, ◌*◌}
use lib.ListN.{take}
use Rattle.octets.specs.Hexadecimal.{hex_octet}
use Rattle.octets.specs.Lists.{each}
use Rattle.octets.specs.Overlay.{Wrote}
use Rattle.octets.proofs.copy_hex.Given as goal

abbrev pub invariant-loop-i : goal.invariant-loop-i
invariant-loop-i l = Wrote l.initial.out l.to (each hex_octet (take l.i l.src)) l.out (l.to + 2 * l.i)
