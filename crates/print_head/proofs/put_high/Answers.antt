-- `print_head::put_high` meets its contract: five members.
use mathlib.Core.Path.{refl}
use Rattle.octets.specs.Writes.{writes_none}
use Rattle.print_head.specs.Head.{with_high, number_after}
use Rattle.print_head.proofs.put_high.Goals as goal

pub returns-clause-wrote : goal.returns-clause-wrote
unfolding with_high
returns-clause-wrote c =
    let qr = number_after _ refl (writes_none _) c.put_number.ensures.wrote in
    let opcode = number_after _ refl qr c.put_number-2.ensures.wrote in
    let aa = number_after _ refl opcode c.put_number-3.ensures.wrote in
    let tc = number_after _ refl aa c.put_number-4.ensures.wrote in
    rw (← c.from-x.ensures) (number_after _ refl tc c.put_number-5.ensures.wrote)
