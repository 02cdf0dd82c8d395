-- `print_edns::put_edns` meets its contract: its parts in order.
use borrow.Author.Rules.{rules}
use Rattle.octets.specs.Writes.{writes_as, writes_then}
use Rattle.print_edns.proofs.Writing.{shows_rise, element_parts}
use Rattle.print_edns.proofs.put_edns.Goals as goal

pub put_options-requires : goal.put_options-requires
put_options-requires c = (search rules, search rules, search (shows_rise, rules))

pub returns-clause-wrote : goal.returns-clause-wrote
returns-clause-wrote c =
    writes_as (element_parts _ _ _ _)
    (writes_then c.put_head.ensures.wrote
    (writes_then c.put_all.ensures
    (writes_then c.put_decimal.ensures.wrote (writes_then c.put_options.ensures.wrote c.put_all-2.ensures))))
