use Rattle.std.proofs.Common.{rules}
use Rattle.parse_tokens.specs.Value.{exit_is}
use Rattle.to_wire.specs.Label.{letters_stop, letters_long, letters_end}
use Rattle.to_wire.proofs.labels.label_at.Goals as goal
use Rattle.to_wire.proofs.labels.label_at.Goals.{then-size-le63, else-size-le63}

pub returns-in_err-letter : goal.returns-in_err-letter
returns-in_err-letter c =
    rw (exit_is c.from_residual.ensures.1) (letters_stop c.loop-letter.invariant c.in_err-letter.ensures)

pub returns-then-eq : goal.returns-then-eq
returns-then-eq c =
    let w = c.loop-letter.invariant in
    elim c.if-size-le63.branch [
      | then-size-le63 x ↦
          rw x.out-is (letters_end w c.in_ok-letter.ensures c.store.ensures (search rules) x.put.ensures)
      | else-size-le63 x ↦
          rw x.out-is (letters_long w c.in_ok-letter.ensures c.store.ensures (search rules) (search rules))
    ]
