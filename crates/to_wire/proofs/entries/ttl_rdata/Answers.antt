-- `to_wire::entries::ttl_rdata` meets its contract: where it stops, so do its parts one after another.
use Rattle.parse_tokens.specs.Cursor.{passed_stays}
use Rattle.parse_tokens.specs.Value.{exit_is}
use Rattle.to_wire.specs.Reading.{rdata_stays, tail_stop}
use Rattle.to_wire.proofs.entries.ttl_rdata.Goals as goal

pub returns-in_err-c : goal.returns-in_err-c
returns-in_err-c c = rw (exit_is c.from_residual.ensures.1)
    (tail_stop c.in_err-c.ensures (rdata_stays c.args.rtype _ _) passed_stays)

pub returns-in_err-c-2 : goal.returns-in_err-c-2
returns-in_err-c-2 c = rw (exit_is c.from_residual-in_err-c-2.ensures.1)
    (tail_stop c.in_ok-c.ensures c.in_err-c-2.ensures passed_stays)

pub returns-in_err-c-3 : goal.returns-in_err-c-3
returns-in_err-c-3 c = rw (exit_is c.from_residual-in_err-c-3.ensures.1)
    (tail_stop c.in_ok-c.ensures c.in_ok-c-2.ensures c.in_err-c-3.ensures)
