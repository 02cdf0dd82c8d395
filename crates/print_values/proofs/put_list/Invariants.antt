-- `print_values::put_list` meets its contract: what is left are the numbers of the octets left, and the bracket.
use mathlib.Core.Path.{◌≡◌}
use Prim.Native.Nat.{◌≤◌, ◌+◌, ◌*◌}
use lib.ListN.{length}
use Rattle.std.specs.Slice.Iter.{chunks_exact_rest, chunks_exact_size}
use Rattle.octets.specs.Lists.{listed}
use Rattle.octets.specs.Decimal.{decimal}
use Rattle.octets.specs.Writes.{Left}
use Rattle.print_values.specs.Entries.{numbers, entries}
use Rattle.print_values.proofs.put_list.Given as goal

abbrev pub invariant-loop-entry : goal.invariant-loop-entry
invariant-loop-entry g l = record {
  size : chunks_exact_size l.entry-iterator ≡ g.row.SIZE;
  left : Left l.fn.w (listed decimal (numbers g.row.SIZE l.value)) l.w
      (entries (numbers g.row.SIZE (chunks_exact_rest l.entry-iterator)));
  room : l.w.to + 4 * length (chunks_exact_rest l.entry-iterator) ≤ l.fn.w.to + 4 * length l.value;
}
