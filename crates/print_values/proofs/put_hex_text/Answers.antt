-- `print_values::put_hex_text` meets its contract: the text before, the quote, the digits and the quote.
use Rattle.octets.specs.Hexadecimal.{hex_octet, hex_text}
use Rattle.octets.specs.Overlay.{each-ended}
use Rattle.octets.specs.Writes.{writes_then}
use Rattle.print_values.proofs.put_hex_text.Goals as goal

pub returns-clause-wrote : goal.returns-clause-wrote
unfolding hex_text
returns-clause-wrote c =
    writes_then c.put_all.ensures (writes_then c.put.ensures
    (rw (each-ended hex_octet 34) (writes_then c.put_hex.ensures.wrote c.put-2.ensures)))
