-- `to_wire::entries::question` meets its contract: its parts one after another.
use Rattle.parse_tokens.specs.Cursor.{passed_stays}
use Rattle.parse_tokens.specs.Step.{found_stays}
use Rattle.parse_tokens.specs.Value.{exit_is}
use Rattle.to_wire.specs.Reading.{question_read_lem, type_class_stays}
use Rattle.to_wire.proofs.entries.question.Goals as goal

pub returns-in_err-c : goal.returns-in_err-c
returns-in_err-c c = rw (exit_is c.from_residual.ensures.1)
    (question_read_lem c.in_err-c.ensures found_stays type_class_stays passed_stays)

pub returns-in_err-c-2 : goal.returns-in_err-c-2
returns-in_err-c-2 c = rw (exit_is c.from_residual-in_err-c-2.ensures.1)
    (question_read_lem c.in_ok-c.ensures c.in_err-c-2.ensures type_class_stays passed_stays)

pub returns-in_err-c-3 : goal.returns-in_err-c-3
returns-in_err-c-3 c = rw (exit_is c.from_residual-in_err-c-3.ensures.1)
    (question_read_lem c.in_ok-c.ensures c.in_ok-c-2.ensures c.in_err-c-3.ensures passed_stays)

pub returns : goal.returns
returns c = question_read_lem c.in_ok-c.ensures c.in_ok-c-2.ensures c.in_ok-c-3.ensures c.literal-2.ensures
