-- `print_entry::put_start` meets its contract: the four members' texts in order.
use Rattle.octets.specs.Writes.{writes_then}
use Rattle.print_entry.specs.Elements.{start_text}
use Rattle.print_entry.proofs.put_start.Goals as goal

pub returns-clause-wrote : goal.returns-clause-wrote
unfolding start_text
returns-clause-wrote c =
    writes_then (writes_then (writes_then c.put_all.ensures (rw c.form.ensures.value at c.put_name.ensures.wrote))
    c.put_number.ensures.wrote) c.put_number-2.ensures.wrote
