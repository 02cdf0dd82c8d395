-- `print_edns::put_rcode` meets its contract: the name of the row, and no row.
use native.Mathlib.Omega.{arith}
use mathlib.Core.Path.{ap}
use lib.ListN.{length}
use Rattle.octets.specs.Writes.{writes_none}
use Rattle.edns.specs.Table.{no_text}
use Rattle.print_edns.proofs.Writing.{rcode_short}
use Rattle.print_edns.proofs.put_rcode.Goals as goal

pub put_all-requires : goal.put_all-requires
put_all-requires c = omega (arith, rcode_short c.args.n, ap length c.in-Some.ensures.is)

pub returns-in-Some-clause-upper_bound : goal.returns-in-Some-clause-upper_bound
returns-in-Some-clause-upper_bound c =
    omega (arith, rcode_short c.args.n, ap length c.in-Some.ensures.is, c.put_all.ensures.wrote.place)

pub returns-in_default-clause-wrote : goal.returns-in_default-clause-wrote
returns-in_default-clause-wrote c = rw (no_text c.args.n _ c.in_default.ensures) (writes_none c.args.w.now)
