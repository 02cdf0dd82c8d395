-- `to_wire::document` meets its contract: the head, four arrays and the brace, one after another.
use Rattle.parse_tokens.specs.Cursor.{passed_stays}
use Rattle.parse_tokens.specs.Value.{exit_is}
use Rattle.to_wire.specs.Whole.{part_stays, document_stop, document_read}
use Rattle.to_wire.proofs.document.Goals as goal

pub returns-in_err-c : goal.returns-in_err-c
returns-in_err-c c = rw (exit_is c.from_residual.ensures.1)
    (document_stop c.in_err-c.ensures.head_read.found part_stays part_stays part_stays part_stays passed_stays)

pub returns-in_err-c-2 : goal.returns-in_err-c-2
returns-in_err-c-2 c = rw (exit_is c.from_residual-in_err-c-2.ensures.1)
    (document_stop c.in_ok-c.ensures.head_read.found c.in_err-c-2.ensures.found part_stays part_stays part_stays passed_stays)

pub returns-in_err-c-3 : goal.returns-in_err-c-3
returns-in_err-c-3 c = rw (exit_is c.from_residual-in_err-c-3.ensures.1)
    (document_stop c.in_ok-c.ensures.head_read.found c.in_ok-c-2.ensures.found c.in_err-c-3.ensures.found part_stays part_stays passed_stays)

pub returns-in_err-c-4 : goal.returns-in_err-c-4
returns-in_err-c-4 c = rw (exit_is c.from_residual-in_err-c-4.ensures.1)
    (document_stop c.in_ok-c.ensures.head_read.found c.in_ok-c-2.ensures.found c.in_ok-c-3.ensures.found c.in_err-c-4.ensures.found part_stays passed_stays)

pub returns-in_err-c-5 : goal.returns-in_err-c-5
returns-in_err-c-5 c = rw (exit_is c.from_residual-in_err-c-5.ensures.1)
    (document_stop c.in_ok-c.ensures.head_read.found c.in_ok-c-2.ensures.found c.in_ok-c-3.ensures.found c.in_ok-c-4.ensures.found c.in_err-c-5.ensures.found passed_stays)

pub returns-in_err-c-6 : goal.returns-in_err-c-6
returns-in_err-c-6 c = rw (exit_is c.from_residual-in_err-c-6.ensures.1)
    (document_stop c.in_ok-c.ensures.head_read.found c.in_ok-c-2.ensures.found c.in_ok-c-3.ensures.found c.in_ok-c-4.ensures.found c.in_ok-c-5.ensures.found c.in_err-c-6.ensures)

pub returns : goal.returns
returns c = document_read c.in_ok-c.ensures.head_read c.in_ok-c-2.ensures c.in_ok-c-3.ensures c.in_ok-c-4.ensures
    c.in_ok-c-5.ensures c.in_ok-c-6.ensures c.demand.ensures c.consistent.ensures
