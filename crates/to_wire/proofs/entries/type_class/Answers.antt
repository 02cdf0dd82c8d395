-- `to_wire::entries::type_class` meets its contract: where it stops, so do its parts one after another.
use Rattle.parse_tokens.specs.Cursor.{passed_stays}
use Rattle.parse_tokens.specs.Value.{exit_is}
use Rattle.to_wire.specs.Reading.{word_stays, type_class_stop}
use Rattle.to_wire.proofs.entries.type_class.Goals as goal

pub returns-in_err-c : goal.returns-in_err-c
returns-in_err-c c = rw (exit_is c.from_residual.ensures.1)
    (type_class_stop c.in_err-c.ensures (word_stays _ _) passed_stays (word_stays _ _))

pub returns-in_err-c-2 : goal.returns-in_err-c-2
returns-in_err-c-2 c = rw (exit_is c.from_residual-in_err-c-2.ensures.1)
    (type_class_stop c.in_ok-c.ensures c.in_err-c-2.ensures passed_stays (word_stays _ _))

pub returns-in_err-c-3 : goal.returns-in_err-c-3
returns-in_err-c-3 c = rw (exit_is c.from_residual-in_err-c-3.ensures.1)
    (type_class_stop c.in_ok-c.ensures c.in_ok-c-2.ensures c.in_err-c-3.ensures (word_stays _ _))

pub returns-in_err-c-4 : goal.returns-in_err-c-4
returns-in_err-c-4 c = rw (exit_is c.from_residual-in_err-c-4.ensures.1)
    (type_class_stop c.in_ok-c.ensures c.in_ok-c-2.ensures c.in_ok-c-3.ensures c.in_err-c-4.ensures)
