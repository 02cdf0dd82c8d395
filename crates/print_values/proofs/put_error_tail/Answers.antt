-- `print_values::put_error_tail` meets its contract: no text, and text.
use borrow.Author.Rules.{rules}
use Rattle.octets.specs.Writes.{writes_as, writes_then}
use Rattle.print_values.proofs.Parts.{tail_none, tail_some}
use Rattle.print_values.proofs.put_error_tail.Goals as goal
use Rattle.print_values.proofs.put_error_tail.Goals.{then-not-is_empty, else-not-is_empty}

pub returns-clause-wrote : goal.returns-clause-wrote
returns-clause-wrote c = elim c.if-not-is_empty.branch [
  | then-not-is_empty w ↦
      writes_as (tail_some c.args.text.now (search rules))
      (writes_then w.put_all.ensures (writes_then w.put_string.ensures.wrote (rw w.w-is at c.put.ensures)))
  | else-not-is_empty w ↦ writes_as (tail_none c.args.text.now (search rules)) (rw w.w-is at c.put.ensures)
]
