-- `print_entry::put_element` meets its contract: a question or a record.
use borrow.Author.Rules.{rules}
use Rattle.print_entry.specs.Elements.{text_at}
use Rattle.print_entry.proofs.put_element.Goals as goal

pub put_question-requires : goal.put_question-requires
unfolding text_at
put_question-requires c = let h = c.requires in (search rules, search rules, rw c.in-Question.is at c.requires.3)

pub put_record-requires : goal.put_record-requires
unfolding text_at
put_record-requires c = (search rules, search rules, search rules, rw c.in-Record.is at c.requires.3)

pub returns-in-Question-clause-prints : goal.returns-in-Question-clause-prints
unfolding text_at
returns-in-Question-clause-prints c = rw c.in-Question.is c.put_question.ensures.prints

pub returns-in-Record-clause-prints : goal.returns-in-Record-clause-prints
unfolding text_at
returns-in-Record-clause-prints c = rw c.in-Record.is c.put_record.ensures.prints
