-- `to_wire::entries::record_element` meets its contract: the first title, and the record after it.
use Rattle.parse_tokens.specs.Value.{exit_is}
use Rattle.to_wire.specs.Sections.{titled_read, titled_stays}
use Rattle.to_wire.proofs.entries.record_element.Goals as goal

pub returns-in_err-c : goal.returns-in_err-c
returns-in_err-c c = rw (exit_is c.from_residual.ensures.1)
    (titled_read c.args.rcode c.in_err-c.ensures (titled_stays c.args.rcode _ _))

pub returns : goal.returns
returns c = titled_read c.args.rcode c.in_ok-c.ensures c.record.ensures
