-- `put` of records meets its contract: the record's fault, RDATA's fault, or its form.
use borrow.Author.Rules.{rules}
use Rattle.forms.specs.Putting.{record_faults, record_misfits, record_put}
use Rattle.forms.proofs.RecordKind.put.Goals as goal

pub returns-in_err-head-clause-writes_entry : goal.returns-in_err-head-clause-writes_entry
returns-in_err-head-clause-writes_entry c = search (record_faults, c.in_err-head.ensures.value, rules)

pub returns-in_err-end-clause-writes_entry : goal.returns-in_err-end-clause-writes_entry
returns-in_err-end-clause-writes_entry c = search (record_misfits, c.in_ok-head.ensures.value, c.in_err-end.ensures.puts_sized, rules)

pub returns-clause-writes_entry : goal.returns-clause-writes_entry
returns-clause-writes_entry c =
    record_put _ _ c.in_ok-head.ensures.value c.put_named-classed.ensures.wrote c.put_be32-timed.ensures
    c.in_ok-end.ensures.puts_sized c.next.ensures c.from.ensures
