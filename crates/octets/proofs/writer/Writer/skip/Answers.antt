use Rattle.std.proofs.Common.{refl, sym, ap, ◌+◌}
use Rattle.octets.specs.Writes.{writes_past}
use Rattle.octets.proofs.writer.Writer.skip.Goals as goal

pub returns : goal.returns
returns c xs e = writes_past xs c.requires.0 refl refl (ap (λ n. c.args.self.now.to + n) (sym e))
