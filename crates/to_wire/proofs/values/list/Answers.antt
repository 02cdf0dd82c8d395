use Rattle.std.proofs.lemmas.Result.{err_from_is_err_and}
use Rattle.to_wire.specs.Values.{list_opened, list_none}
use Rattle.to_wire.proofs.values.list.Goals as goal

pub returns-in_err-c : goal.returns-in_err-c
returns-in_err-c g c =
    let p = err_from_is_err_and c.from_residual.result c.from_residual.ensures.1 in
    rw (p.1, p.2) (list_none g.row.N c.in_err-c.ensures)

pub returns : goal.returns
returns g c = list_opened g.row.N c.in_ok-c.ensures c.numerals.ensures
