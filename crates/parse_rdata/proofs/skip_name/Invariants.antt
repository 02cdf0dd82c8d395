-- `parse_rdata::skip_name` meets its contract: the walk from `place` on gives the whole answer.
use Prim.Native.Nat.{◌≤◌, ◌-◌}
use Rattle.octets.specs.Loops.{Remains}
use Rattle.parse_rdata.specs.Skipping.{name_end, skipped_from}
use Rattle.parse_rdata.proofs.skip_name.Given as goal

abbrev pub invariant-loop-place : goal.invariant-loop-place
invariant-loop-place g l =
    (l.total ≤ 254) × Remains (name_end (g.O.Octets.octets l.rdata) l.at) (skipped_from (g.O.Octets.octets l.rdata) l.total l.place)

abbrev pub decreases-loop-place : goal.decreases-loop-place
decreases-loop-place g l = 255 - l.total
