-- `print_head::put_low` meets its contract: RA, AD's title with or without Z, AD, CD and RCODE.
use mathlib.Core.Path.{refl}
use Rattle.octets.specs.Writes.{writes_none, writes_then}
use Rattle.print_head.specs.Head.{with_low, number_after}
use Rattle.print_head.proofs.put_low.Goals as goal

pub returns-clause-wrote : goal.returns-clause-wrote
unfolding with_low
returns-clause-wrote c =
    let ra = number_after _ refl (writes_none _) c.put_number.ensures.wrote in
    let ad = writes_then (writes_then ra c.put_ad_title.ensures.wrote) c.put_decimal.ensures.wrote in
    let cd = number_after _ refl ad c.put_number-2.ensures.wrote in
    rw (← c.from-x.ensures) (number_after _ refl cd c.put_number-3.ensures.wrote)
