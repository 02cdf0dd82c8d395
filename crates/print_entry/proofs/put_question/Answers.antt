-- `print_entry::put_question` meets its contract: the members and the brace; there is no fault.
use borrow.Author.Rules.{rules}
use mathlib.Core.Path.{sym, ◌∙◌}
use Rattle.print_entry.proofs.Writing.{question_is_read, question_prints}
use Rattle.print_entry.proofs.put_question.Goals as goal

pub unwrap-asked-requires : goal.unwrap-asked-requires
unwrap-asked-requires c =
    let (q, e) = question_is_read c.args.s.now c.args.at (search rules) in
    rw (c.question_at.ensures.value ∙ e)

pub returns-clause-prints : goal.returns-clause-prints
returns-clause-prints c =
    question_prints _ _ (sym c.unwrap-asked.ensures ∙ c.question_at.ensures.value) c.put_start.ensures.wrote
    c.put.ensures
