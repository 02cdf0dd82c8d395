use Rattle.to_wire.specs.Values.{zeros_more}
use Rattle.to_wire.proofs.values.put_zeros.Goals as goal

pub loop-i-preserved : goal.loop-i-preserved
loop-i-preserved c = zeros_more c.loop-i.i c.loop-i.invariant c.put.ensures
