-- `to_wire::entries::read_section` meets its contract: the bracket, and the entries after it.
use Rattle.parse_tokens.specs.Value.{exit_is}
use Rattle.to_wire.specs.Sections.{section_read, inside_stays}
use Rattle.to_wire.proofs.entries.read_section.Goals as goal

pub returns-in_err-c : goal.returns-in_err-c
returns-in_err-c c = rw (exit_is c.from_residual.ensures.1)
    (section_read c.args.element c.args.rcode c.in_err-c.ensures (inside_stays c.args.element c.args.rcode _ _))

pub returns : goal.returns
returns c = section_read c.args.element c.args.rcode c.in_ok-c.ensures c.elements.ensures
