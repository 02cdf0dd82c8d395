-- `print_options::put_other` meets its contract: the name with the code, and the value in hexadecimal.
use Rattle.std.proofs.Common.{append_assoc}
use Rattle.octets.specs.Writes.{writes_then}
use Rattle.options.specs.Options.{member_text}
use Rattle.print_options.proofs.put_other.Goals as goal

pub returns-clause-wrote : goal.returns-clause-wrote
unfolding member_text
returns-clause-wrote c =
    simp append_assoc
    (writes_then c.put_all.ensures (writes_then c.put_decimal.ensures.wrote c.put_hex_text.ensures.wrote))
