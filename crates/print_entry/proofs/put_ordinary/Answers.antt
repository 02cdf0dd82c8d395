-- `print_entry::put_ordinary` meets its contract: the fields, RDATA in quotes and the brace; there is no fault.
use borrow.Author.Rules.{rules}
use Rattle.print_entry.proofs.Showing.{ordinary_prints}
use Rattle.print_entry.proofs.put_ordinary.Goals as goal

pub returns-clause-prints : goal.returns-clause-prints
returns-clause-prints c =
    ordinary_prints _ _ (search rules) c.put_fields.ensures.wrote c.put.ensures c.put_rdata-fits.ensures.puts_rdata
    c.put_all.ensures
