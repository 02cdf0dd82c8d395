use Rattle.std.proofs.Common.{arith}
use Rattle.to_text.proofs.Promise.{gives_text, measured_long, measured_text}
use Rattle.to_text.proofs.deliver.Goals as goal
use Rattle.to_text.proofs.deliver.Goals.{then-text-most+else-measured-text, else-text-most}

pub returns-then-measured-text : goal.returns-then-measured-text
returns-then-measured-text c = rw c.at.ensures
    (measured_long c.requires.0 _ _ c.put_text-measured.auto.out c.put_text-measured.ensures c.if-measured-text.true)

pub returns : goal.returns
returns c = elim c.if-text-most.branch [
  | then-text-most+else-measured-text w ↦
      measured_text c.requires.0 _ _ w.put_text-measured.auto.out w.put_text-measured.ensures w.if-measured-text.false
      (rw w.text-is at c.put_text.ensures)
  | else-text-most w ↦
      gives_text c.requires.0 (omega (arith, w.if-text-most.false)) (rw w.text-is at c.put_text.ensures)
]
