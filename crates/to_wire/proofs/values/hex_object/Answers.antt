use Rattle.to_wire.specs.Values.{hex_object_value}
use Rattle.to_wire.proofs.values.hex_object.Goals as goal

pub returns : goal.returns
returns c = hex_object_value c.in_ok-c.ensures c.in_ok-c-2.ensures.read c.put_hex.ensures c.literal-2.ensures
