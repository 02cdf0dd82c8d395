-- `print_entry::put_shown` meets its contract: the EDNS element, or the record as it is.
use borrow.Author.Rules.{rules}
use Rattle.print_entry.proofs.Showing.{element_shows, shown_element, shown_as_is}
use Rattle.print_entry.proofs.Writing.{rdata_short}
use Rattle.print_entry.proofs.put_shown.Goals as goal

pub put_edns-requires : goal.put_edns-requires
put_edns-requires c = (search rules, search rules, search (rdata_short, rules), search (element_shows, rules))

pub put_ordinary-requires : goal.put_ordinary-requires
put_ordinary-requires c = (
  search rules,
  search rules,
  search rules,
  rw (shown_as_is _ _ _ c.is_element.ensures c.if-is_element.false) (search rules),
)

pub returns-then-is_element-clause-prints : goal.returns-then-is_element-clause-prints
returns-then-is_element-clause-prints c = search (shown_element, rules)

pub returns-else-is_element-clause-prints : goal.returns-else-is_element-clause-prints
returns-else-is_element-clause-prints c =
    rw (← (shown_as_is _ _ _ c.is_element.ensures c.if-is_element.false)) c.put_ordinary.ensures.prints
