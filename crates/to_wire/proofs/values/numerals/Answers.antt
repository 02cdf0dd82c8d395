use Rattle.std.proofs.Common.{rules}
use Rattle.std.proofs.lemmas.Result.{err_from_is_err_and}
use Rattle.parse_tokens.specs.Step.{found_stays}
use Rattle.to_wire.specs.Values.{numerals_start, numerals_stop, numerals_less, numerals_more, numerals_end}
use Rattle.to_wire.proofs.values.numerals.Goals as goal

pub loop-d-init : goal.loop-d-init
loop-d-init g c = numerals_start c.requires.safe

pub returns-in_err-next : goal.returns-in_err-next
returns-in_err-next g c =
    let p = err_from_is_err_and c.from_residual.result c.from_residual.ensures.1 in
    rw (p.1, p.2) (numerals_stop c.loop-d.invariant (search rules) c.in_err-next.ensures found_stays)

pub returns-in_err-d : goal.returns-in_err-d
returns-in_err-d g c =
    let p = err_from_is_err_and c.from_residual-in_err-d.result c.from_residual-in_err-d.ensures.1 in
    rw (p.1, p.2) (numerals_stop c.loop-d.invariant (search rules) c.in_ok-next.ensures c.in_err-d.ensures)

pub loop-d-smaller : goal.loop-d-smaller
loop-d-smaller g c = numerals_less c.loop-d.invariant c.in_ok-next.ensures c.in_ok-d.ensures

pub loop-d-preserved : goal.loop-d-preserved
loop-d-preserved g c = numerals_more c.loop-d.invariant c.in_ok-next.ensures c.in_ok-d.ensures c.numeral.auto.out

pub returns : goal.returns
returns g c = numerals_end c.loop-d.invariant (search rules) c.advance.ensures
