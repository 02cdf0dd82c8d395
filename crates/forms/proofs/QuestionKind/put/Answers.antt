-- `put` of questions meets its contract: the question's fault, or its form.
use borrow.Author.Rules.{rules}
use Rattle.forms.specs.Putting.{question_faults, question_puts}
use Rattle.forms.proofs.QuestionKind.put.Goals as goal

pub returns-in_err-asked-clause-writes_entry : goal.returns-in_err-asked-clause-writes_entry
returns-in_err-asked-clause-writes_entry c = search (question_faults, c.in_err-asked.ensures.value, rules)

pub returns-clause-writes_entry : goal.returns-clause-writes_entry
returns-clause-writes_entry c = question_puts _ _ c.in_ok-asked.ensures.value c.put_named.ensures.wrote c.from.ensures
