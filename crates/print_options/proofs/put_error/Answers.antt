-- `print_options::put_error` meets its contract: two octets and text.
use borrow.Author.Rules.{rules}
use Rattle.octets.specs.Writes.{writes_as, writes_then}
use Rattle.print_options.specs.Writing.{error_two, error_is}
use Rattle.print_options.proofs.put_error.Goals as goal

pub be16_at-requires : goal.be16_at-requires
be16_at-requires c = search (error_two, rules)

pub slice_bounds-put_error_tail-count : goal.slice_bounds-put_error_tail-count
slice_bounds-put_error_tail-count c = search (error_two, rules)

pub slice_bounds-put_error_tail-start : goal.slice_bounds-put_error_tail-start
slice_bounds-put_error_tail-start c = search (error_two, rules)

pub returns-clause-wrote : goal.returns-clause-wrote
returns-clause-wrote c =
    writes_as (error_is c.args.value.now (search rules))
    (writes_then c.put_all.ensures
    (writes_then (rw c.be16_at.ensures.value at c.put_decimal.ensures.wrote) c.put_error_tail.ensures.wrote))
