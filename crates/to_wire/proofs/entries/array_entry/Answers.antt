use Rattle.to_wire.specs.Sections.{one_asked, one_titled, one_item}
use Rattle.to_wire.proofs.entries.array_entry.Goals as goal

pub returns-in-Question : goal.returns-in-Question
returns-in-Question c = one_asked c.args.rcode c.in-Question.is c.question_entry.ensures

pub returns-in-Record : goal.returns-in-Record
returns-in-Record c = one_titled c.args.rcode c.in-Record.is c.record_element.ensures

pub returns-in-Additional : goal.returns-in-Additional
returns-in-Additional c = one_item c.args.rcode c.in-Additional.is c.additional_element.ensures
