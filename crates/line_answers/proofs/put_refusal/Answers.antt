-- Four parts.
use Rattle.octets.specs.Writes.{writes_then}
use Rattle.line_answers.specs.Answers.{refusal_line}
use Rattle.line_answers.proofs.put_refusal.Goals as goal

pub returns-clause-wrote : goal.returns-clause-wrote
unfolding refusal_line
returns-clause-wrote c =
    let number = writes_then c.put_all.ensures c.put_decimal.ensures.wrote in
    writes_then (writes_then number c.put_all-2.ensures) c.put_decimal-2.ensures.wrote
