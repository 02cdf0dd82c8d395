-- `spelling::put_label` meets its contract: the octets up to the loop's are written.
use Prim.Native.Nat.{◌≤◌, ◌+◌, ◌*◌}
use lib.ListN.{take}
use Rattle.octets.specs.Lists.{each}
use Rattle.octets.specs.Writes.{Writes}
use Rattle.spelling.specs.Spelling.{spelled}
use Rattle.spelling.proofs.put_label.Given as goal

abbrev pub invariant-loop-x : goal.invariant-loop-x
invariant-loop-x l = record {
  wrote : Writes l.initial.w (each spelled (take l.x-index l.label)) l.w;
  upper_bound : l.w.to ≤ l.initial.w.to + 5 * l.x-index;
}
