-- `forms::put_sized` meets its contract: RDATA's fault, or RDATA and then its length before it.
use borrow.Author.Rules.{rules}
use Rattle.std.proofs.lemmas.Result.{err_from_is_err_and}
use Rattle.forms.specs.Putting.{sized_fault, sized_puts}
use Rattle.forms.proofs.put_sized.Goals as goal

pub returns-in_err-put_rdata-clause-puts_sized : goal.returns-in_err-put_rdata-clause-puts_sized
returns-in_err-put_rdata-clause-puts_sized c =
    let p = err_from_is_err_and c.from_residual.result c.from_residual.ensures.1 in
    rw (p.1, p.2) (sized_fault _ _ c.in_err-put_rdata.ensures.puts_rdata)

pub returns-clause-puts_sized : goal.returns-clause-puts_sized
returns-clause-puts_sized c =
    sized_puts _ _ c.in_ok-put_rdata.ensures.puts_rdata (λ v. search rules) c.put_be16-rdata.ensures
