-- `to_wire::head::head` meets its contract: where it stops, nothing is said of the header.
use Rattle.parse_tokens.specs.Value.{at_exit}
use Rattle.to_wire.specs.Head.{HeadRead, head_stop}
use Rattle.to_wire.proofs.head.head.Goals as goal

pub returns-in_err-c-clause-head_read : goal.returns-in_err-c-clause-head_read
returns-in_err-c-clause-head_read c =
    at_exit (λ r. HeadRead c.args.text.now c.args.c c.args.out.now r c.args.out.now) c.from_residual.ensures.1
    (head_stop c.in_err-c.ensures)
