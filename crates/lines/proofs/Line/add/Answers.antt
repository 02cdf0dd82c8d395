-- As many octets as there is room for.
use Rattle.std.proofs.Common.{rules}
use Rattle.lines.proofs.Keeping.{joined}
use Rattle.lines.proofs.Line.add.Goals as goal

pub returns : goal.returns
returns c =
    rw (← c.self.view_is)
    (joined c.self.inside.octets c.self.inside.used 65537 c.self.invariant (search rules) c.args.octets.now
    (search rules) c.put_all-self-inside.ensures)
