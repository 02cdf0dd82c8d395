-- `print_head::put_number` meets its contract: the name, and the number.
use Rattle.octets.specs.Writes.{writes_then}
use Rattle.print_head.specs.Head.{number_text}
use Rattle.print_head.proofs.put_number.Goals as goal

pub returns-clause-wrote : goal.returns-clause-wrote
unfolding number_text
returns-clause-wrote c = writes_then c.put_all.ensures c.put_decimal.ensures.wrote
