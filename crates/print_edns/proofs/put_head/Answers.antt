-- `print_edns::put_head` meets its contract: its parts in order.
use Rattle.std.proofs.Common.{append_assoc}
use Rattle.octets.specs.Decimal.{decimal}
use Rattle.octets.specs.Writes.{writes_then}
use Rattle.edns.specs.Element.{edns_head_text}
use Rattle.print_edns.proofs.put_head.Goals as goal

pub returns-clause-wrote : goal.returns-clause-wrote
unfolding edns_head_text decimal
returns-clause-wrote c =
    simp append_assoc
    (writes_then c.put_all.ensures
    (writes_then c.put_flags.ensures.wrote (writes_then c.put_all-2.ensures c.put_rcode.ensures.wrote)))
