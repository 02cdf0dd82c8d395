-- `spelling::put_string` meets its contract: the octets up to the loop's are written.
use Prim.Native.Nat.{◌≤◌, ◌+◌, ◌*◌}
use lib.ListN.{take}
use Rattle.octets.specs.Lists.{each}
use Rattle.octets.specs.Writes.{Writes}
use Rattle.spelling.specs.Spelling.{string_octet}
use Rattle.spelling.proofs.put_string.Given as goal

abbrev pub invariant-loop-x : goal.invariant-loop-x
invariant-loop-x l = record {
  wrote : Writes l.initial.w (each string_octet (take l.x-index l.src)) l.w;
  upper_bound : l.w.to ≤ l.initial.w.to + 2 * l.x-index;
}
