-- `records::owner_at` meets its contract: the fields before the next one fit and end at `place`.
use Prim.Native.Nat.{◌≤◌}
use lib.ListN.{length}
use Rattle.records.proofs.Reading.{FieldsLoop}
use Rattle.records.proofs.owner_at.Given as goal

abbrev pub invariant-loop-width : goal.invariant-loop-width
invariant-loop-width l = (l.place ≤ length l.s) × FieldsLoop l.s l.widths l.next l.place l.width-index
