-- `print_message::head::put_counts` meets its contract: four members, each of a number of two octets.
use Rattle.octets.specs.Writes.{writes_none}
use Rattle.print_head.specs.Head.{number_after}
use Rattle.print_message.specs.Head.{with_counts}
use Rattle.print_message.proofs.head.put_counts.Goals as goal

pub returns-clause-wrote : goal.returns-clause-wrote
unfolding with_counts
returns-clause-wrote c =
    let questions = number_after _ c.be16_at.ensures.value (writes_none _) c.put_number.ensures.wrote in
    let answers = number_after _ c.be16_at-2.ensures.value questions c.put_number-2.ensures.wrote in
    let authority = number_after _ c.be16_at-3.ensures.value answers c.put_number-3.ensures.wrote in
    number_after _ c.be16_at-4.ensures.value authority c.put_number-4.ensures.wrote
