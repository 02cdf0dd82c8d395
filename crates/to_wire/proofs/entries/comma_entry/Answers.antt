-- `to_wire::entries::comma_entry` meets its contract: the comma, and the entry after it.
use Rattle.parse_tokens.specs.Value.{exit_is}
use Rattle.to_wire.specs.Sections.{next_read, one_stays}
use Rattle.to_wire.proofs.entries.comma_entry.Goals as goal

pub returns-in_err-c : goal.returns-in_err-c
returns-in_err-c c = rw (exit_is c.from_residual.ensures.1)
    (next_read c.args.element c.args.first c.args.rcode c.in_err-c.ensures
    (one_stays c.args.element c.args.rcode _ _))

pub returns : goal.returns
returns c = next_read c.args.element c.args.first c.args.rcode c.in_ok-c.ensures c.array_entry.ensures
