-- `parse_rdata::put_octets` meets its contract: the octets so far were written, and they and those that are left are all.
use mathlib.Core.Path.{◌≡◌}
use mathlib.Core.List.{◌++◌}
use Rattle.octets.specs.Overlay.{Wrote}
use Rattle.parse_rdata.proofs.put_octets.Given as goal

abbrev pub invariant-loop-octet : goal.invariant-loop-octet
invariant-loop-octet g l =
    Wrote l.initial.out l.to l.yielded l.out l.next
    × (l.yielded ++ g.O.Octets.octets l.octet-iterator.rest ≡ g.O.Octets.octets l.fn.octets)
