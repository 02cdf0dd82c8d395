-- `names::name_at` meets its contract. The loop's invariant: the walk from `place` on gives the whole answer, after the
-- labels that are in `octets` so far. The measure is the bound on the definition's steps: a label adds to `total`, a
-- pointer lowers `low`.
use Prim.Native.Nat.{◌≤◌, ◌+◌, ◌-◌}
use mathlib.Core.Path.{◌≡◌}
use lib.ListN.{length}
use Rattle.octets.specs.Loops.{Remains}
use Rattle.names.specs.Walk.{end_of, name_at}
use Rattle.names.specs.Answer.{limit_of, name_read}
use Rattle.names.specs.Stored.{Zeros}
use Rattle.names.specs.Ways.{read_from}
use Rattle.names.proofs.name_at.Given as goal

abbrev pub invariant-loop-place : goal.invariant-loop-place
invariant-loop-place l =
    (l.total ≤ 254) × (end_of l.s (limit_of l.bound) ≤ length l.s) × (length l.octets ≡ 255)
    × Remains (name_read (name_at l.s (limit_of l.initial.bound) l.at)) (read_from l.s l.octets l.bound l.low l.next l.total l.place)
    × Zeros l.octets l.total

abbrev pub decreases-loop-place : goal.decreases-loop-place
decreases-loop-place l = l.low + (255 - l.total)
