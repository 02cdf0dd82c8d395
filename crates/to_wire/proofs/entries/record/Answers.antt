-- `to_wire::entries::record` meets its contract: where its owner stops, so does it.
use Rattle.parse_tokens.specs.Cursor.{passed_stays}
use Rattle.parse_tokens.specs.Value.{exit_is}
use Rattle.to_wire.specs.Reading.{record_stop, type_class_stays}
use Rattle.to_wire.proofs.entries.record.Goals as goal

pub returns-in_err-owner : goal.returns-in_err-owner
returns-in_err-owner c = rw (exit_is c.from_residual.ensures.1)
    (record_stop c.args.rcode c.in_err-owner.ensures type_class_stays passed_stays)
