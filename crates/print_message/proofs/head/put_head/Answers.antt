-- `print_message::head::put_head` meets its contract: the member of ID, and the three parts.
use Rattle.print_message.specs.Head.{wrote_head}
use Rattle.print_message.proofs.head.put_head.Goals as goal

pub returns-clause-wrote : goal.returns-clause-wrote
returns-clause-wrote c =
    wrote_head _ c.be16_at.ensures.value c.put_number.ensures.wrote c.put_high.ensures.wrote c.put_low.ensures.wrote
    c.put_counts.ensures.wrote
