-- `to_wire::members::option_member` meets its contract: one of two kinds of member.
use Rattle.to_wire.specs.Options.{member_known, member_other}
use Rattle.to_wire.proofs.members.option_member.Goals as goal

pub returns-in-Ok : goal.returns-in-Ok
returns-in-Ok c = member_other c.in-Ok.ensures c.opt_n.result c.opt_n.ensures

pub returns-in-Err : goal.returns-in-Err
returns-in-Err c = rw c.furthest.ensures (member_known c.known_member.result c.in-Err.ensures c.known_member.ensures)
