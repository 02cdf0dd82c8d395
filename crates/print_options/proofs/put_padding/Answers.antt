-- `print_options::put_padding` meets its contract: all octets zero, and not.
use borrow.Author.Rules.{rules}
use Rattle.octets.specs.Writes.{writes_as, writes_then}
use Rattle.print_options.specs.Writing.{padding_zero, padding_some}
use Rattle.print_options.proofs.put_padding.Goals as goal
use Rattle.print_options.proofs.put_padding.Goals.{then-not-zero, else-not-zero}

pub returns-clause-wrote : goal.returns-clause-wrote
returns-clause-wrote c = elim c.if-not-zero.branch [
  | then-not-zero w ↦
      writes_as (padding_some c.args.value.now (search rules))
      (writes_then c.put_all.ensures
      (writes_then c.put_decimal.ensures.wrote (writes_then w.put_hex_text.ensures.wrote (rw w.w-is at c.put.ensures))))
  | else-not-zero w ↦
      writes_as (padding_zero c.args.value.now (search rules))
      (writes_then c.put_all.ensures (writes_then c.put_decimal.ensures.wrote (rw w.w-is at c.put.ensures)))
]
