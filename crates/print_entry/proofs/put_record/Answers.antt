-- `print_entry::put_record` meets its contract: the record by what was read of it; there is no fault.
use borrow.Author.Rules.{rules}
use mathlib.Core.Path.{sym, ◌∙◌, subst}
use Rattle.print_entry.specs.Prints.{Readable}
use Rattle.print_entry.proofs.Showing.{record_is_read, record_same}
use Rattle.print_entry.proofs.put_record.Goals as goal

pub unwrap-head-requires : goal.unwrap-head-requires
unwrap-head-requires c =
    let (h, e) = record_is_read c.args.s.now c.args.at c.args.lone (search rules) in
    rw (c.record_at.ensures.value ∙ e)

pub put_shown-requires : goal.put_shown-requires
put_shown-requires c =
    let read = sym c.unwrap-head.ensures ∙ c.record_at.ensures.value in
    (search rules, search rules, search rules, search rules, subst Readable (record_same _ _ _ read) (search rules))

pub returns-clause-prints : goal.returns-clause-prints
returns-clause-prints c =
    let read = sym c.unwrap-head.ensures ∙ c.record_at.ensures.value in
    rw (record_same _ _ c.args.lone read, c.next.ensures) c.put_shown.ensures.prints
