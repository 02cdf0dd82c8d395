-- `print_options::put_hex_object` meets its contract: the value in hexadecimal.
use Rattle.octets.specs.Writes.{writes_then}
use Rattle.options.specs.Options.{value_text, shape}
use Rattle.print_options.specs.Writing.{shaped_text}
use Rattle.print_options.proofs.put_hex_object.Goals as goal

pub returns-clause-wrote : goal.returns-clause-wrote
unfolding shape value_text shaped_text
returns-clause-wrote c = writes_then c.put_hex_text.ensures.wrote c.put.ensures
