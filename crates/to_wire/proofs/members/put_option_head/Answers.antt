-- `to_wire::members::put_option_head` meets its contract: a code and a length, in octets.
use Rattle.to_wire.specs.Options.{fronted}
use Rattle.to_wire.proofs.members.put_option_head.Goals as goal

pub returns : goal.returns
returns c = fronted c.put_be16-next.ensures c.put_be16.ensures
