use Rattle.std.proofs.Common.{rules}
use Rattle.std.proofs.lemmas.Result.{err_from_is_err_and}
use Rattle.parse_tokens.specs.Hex.{pairs_stop, quote_after}
use Rattle.parse_tokens.proofs.pairs.Goals as goal

pub returns-in_err-end : goal.returns-in_err-end
returns-in_err-end c =
    let p = err_from_is_err_and c.from_residual.result c.from_residual.ensures.1 in
    rw (p.1, p.2) record {
      read = pairs_stop c.loop-c.invariant c.requires (rw c.loop-c-test.false at c.hex_at.ensures) c.advance.ensures
          c.in_err-end.ensures;
      digits = quote_after c.loop-c.invariant c.advance.ensures (search rules) c.in_err-end.ensures;
    }
