-- `to_wire::members::member_name` meets its contract: a name of the table between two titles.
use Rattle.parse_tokens.specs.Cursor.{passed_stays}
use Rattle.parse_tokens.specs.Value.{exit_is, value_stays}
use Rattle.to_wire.specs.Options.{name_read, name_stop}
use Rattle.to_wire.proofs.members.member_name.Goals as goal

pub returns-in_err-c : goal.returns-in_err-c
returns-in_err-c c = rw (exit_is c.from_residual.ensures.1) (name_stop c.in_err-c.ensures value_stays passed_stays)

pub returns-in_err-c-2 : goal.returns-in_err-c-2
returns-in_err-c-2 c =
    rw (exit_is c.from_residual-in_err-c-2.ensures.1) (name_stop c.in_ok-c.ensures c.in_err-c-2.ensures passed_stays)

pub returns-in_err-c-3 : goal.returns-in_err-c-3
returns-in_err-c-3 c = rw (exit_is c.from_residual-in_err-c-3.ensures.1)
    (name_stop c.in_ok-c.ensures c.in_ok-c-2.ensures c.in_err-c-3.ensures)

pub returns : goal.returns
returns c = name_read c.in_ok-c.ensures c.in_ok-c-2.ensures c.in_ok-c-3.ensures
