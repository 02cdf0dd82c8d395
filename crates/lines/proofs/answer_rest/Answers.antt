-- What is kept of the joined line has its answer.
use Rattle.lines.proofs.Keeping.{answer_first}
use Rattle.lines.proofs.answer_rest.Goals as goal

pub returns-clause-wrote : goal.returns-clause-wrote
returns-clause-wrote g c =
    answer_first _ _ g.met.P.Program.limits.0 _ (rw (c.octets.ensures, c.add.ensures) at c.put_line-n.ensures.wrote)
