-- `print_message::put_array` meets its contract: the bracket, one element a turn, and the bracket after the last.
use Prim.Native.Nat.{◌+◌, ◌*◌, ◌≤◌}
use lib.ListN.{length}
use Rattle.print_message.specs.Arrays.{ArrayLoop}
use Rattle.print_message.proofs.put_array.Given as goal

abbrev pub invariant-loop-turn : goal.invariant-loop-turn
invariant-loop-turn l = record {
  later : l.at ≤ l.next;
  within : l.next ≤ length l.s;
  room : l.w.to + 4096 * l.at ≤ l.initial.w.to + 4096 * l.next;
  left : ArrayLoop l.element l.s l.count l.at l.turn l.next l.initial.w l.w;
}
