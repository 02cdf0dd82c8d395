-- `records::record_at` meets its contract: the owner's fault, RDATA past the message's end, or the record.
use borrow.Author.Rules.{rules}
use Rattle.records.proofs.Reading.{head_faulty, head_cut, head-whole}
use Rattle.records.proofs.record_at.Goals as goal

pub returns-in_err-owner-clause-value : goal.returns-in_err-owner-clause-value
returns-in_err-owner-clause-value c = search (head_faulty, rules)

pub returns-then-s-rdata-clause-value : goal.returns-then-s-rdata-clause-value
returns-then-s-rdata-clause-value c = search (head_cut, c.in_ok-owner.ensures.value, rules)

pub returns-clause-value : goal.returns-clause-value
returns-clause-value c = search (head-whole, c.in_ok-owner.ensures.value, rules)
