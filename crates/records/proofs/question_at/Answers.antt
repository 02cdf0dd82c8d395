-- `records::question_at` meets its contract: the name's fault, or TYPE and CLASS after the name.
use borrow.Author.Rules.{rules}
use Rattle.records.proofs.Reading.{question_faulty, question_whole}
use Rattle.records.proofs.question_at.Goals as goal

pub returns-in_err-name-clause-value : goal.returns-in_err-name-clause-value
returns-in_err-name-clause-value c = search (question_faulty, rules)

pub returns-clause-value : goal.returns-clause-value
returns-clause-value c = search (question_whole, c.in_ok-name.ensures.value, rules)
