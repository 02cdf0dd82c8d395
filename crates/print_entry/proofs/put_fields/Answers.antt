-- `print_entry::put_fields` meets its contract: the first members, TTL, and the title of RDATA.
use Rattle.octets.specs.Writes.{writes_then}
use Rattle.print_entry.specs.Elements.{fields_text}
use Rattle.print_entry.proofs.put_fields.Goals as goal

pub returns-clause-wrote : goal.returns-clause-wrote
unfolding fields_text
returns-clause-wrote c =
    writes_then (writes_then (writes_then c.put_start.ensures.wrote c.put_all.ensures) c.put_signed.ensures.wrote)
    c.put_all-2.ensures
