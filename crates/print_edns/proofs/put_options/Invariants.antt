-- `print_edns::put_options` meets its contract: the options that are left divide what is left of RDATA.
use Prim.Native.Nat.{◌+◌, ◌*◌, ◌≤◌}
use lib.ListN.{length}
use Rattle.octets.specs.Writes.{Left}
use Rattle.edns.specs.Element.{options_text}
use Rattle.print_edns.proofs.Writing.{Divides}
use Rattle.print_edns.proofs.put_options.Given as goal

abbrev pub invariant-loop-rest : goal.invariant-loop-rest
invariant-loop-rest l = record {
  divides : Divides l.rest;
  left : Left l.fn.w (options_text l.rdata) l.w (options_text l.rest);
  room : l.w.to + 64 * length l.rest ≤ l.fn.w.to + 64 * length l.rdata;
}

abbrev pub decreases-loop-rest : goal.decreases-loop-rest
decreases-loop-rest l = length l.rest
