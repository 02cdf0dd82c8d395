-- `print_options::put_expiry` meets its contract: no octets, and four.
use borrow.Author.Rules.{rules}
use Rattle.octets.specs.Writes.{writes_as}
use Rattle.print_options.specs.Writing.{expiry_four, expiry_none, expiry_some}
use Rattle.print_options.proofs.put_expiry.Goals as goal

pub be32_at-requires : goal.be32_at-requires
be32_at-requires c = search (expiry_four, rules)

pub returns-in-empty-clause-wrote : goal.returns-in-empty-clause-wrote
returns-in-empty-clause-wrote c = writes_as (expiry_none _ (search rules)) c.put_all.ensures

pub returns-in_default-clause-wrote : goal.returns-in_default-clause-wrote
returns-in_default-clause-wrote c =
    writes_as (expiry_some _ (search rules) (search rules)) (rw c.be32_at.ensures at c.put_decimal.ensures.wrote)
