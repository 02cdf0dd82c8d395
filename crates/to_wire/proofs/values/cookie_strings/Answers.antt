use Rattle.std.proofs.Common.{rules}
use Rattle.std.proofs.lemmas.Result.{err_from_is_err_and}
use Rattle.parse_tokens.specs.Step.{found_stays}
use Rattle.to_wire.specs.Values.{cookies_stop, cookies_less, cookies_end}
use Rattle.to_wire.proofs.values.cookie_strings.Goals as goal

pub returns-in_err-next : goal.returns-in_err-next
returns-in_err-next c =
    let p = err_from_is_err_and c.from_residual.result c.from_residual.ensures.1 in
    rw (p.1, p.2) (cookies_stop c.loop-d.invariant (search rules) c.in_err-next.ensures found_stays)

pub returns-in_err-d : goal.returns-in_err-d
returns-in_err-d c =
    let p = err_from_is_err_and c.from_residual-in_err-d.result c.from_residual-in_err-d.ensures.1 in
    rw (p.1, p.2) (cookies_stop c.loop-d.invariant (search rules) c.in_ok-next.ensures c.in_err-d.ensures)

pub loop-d-smaller : goal.loop-d-smaller
loop-d-smaller c = cookies_less c.loop-d.invariant c.in_ok-next.ensures c.in_ok-d.ensures

pub returns : goal.returns
returns c = cookies_end c.loop-d.invariant (search rules) c.advance.ensures c.demand.ensures
