-- `edns::options_rise` meets its contract: what is left gives the whole answer.
use Rattle.std.proofs.Common.{◌≡◌, ◌≤◌, length}
use Rattle.edns.specs.Element.{options_rise}
use Rattle.edns.proofs.Ways.{rise}
use Rattle.edns.proofs.options_rise.Given as goal

abbrev pub invariant-loop-rest : goal.invariant-loop-rest
invariant-loop-rest g l = record {
  bound : l.least ≤ 65536;
  goes : options_rise (g.O.Octets.octets l.fn.rdata) ≡ rise l.least (g.O.Octets.octets l.rest);
}

abbrev pub decreases-loop-rest : goal.decreases-loop-rest
decreases-loop-rest g l = length (g.O.Octets.octets l.rest)
