-- `to_wire::element::put_edns_head` meets its contract: the fields before the options, in octets.
use Rattle.to_wire.specs.Element.{opt_fronted}
use Rattle.to_wire.proofs.element.put_edns_head.Goals as goal

pub returns : goal.returns
returns c = opt_fronted c.put_all-next.ensures c.put_be16-next.ensures c.put_be32-next.ensures c.put_be16.ensures
