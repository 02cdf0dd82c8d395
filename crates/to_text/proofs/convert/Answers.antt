use Rattle.std.proofs.lemmas.Result.{err_from_is_err_and}
use Rattle.to_text.proofs.Promise.{converts, convert_refused, convert_bounded, convert_accepted, convert_whole}
use Rattle.to_text.proofs.convert.Goals as goal

pub returns-in_err-form : goal.returns-in_err-form
returns-in_err-form c =
    let p = err_from_is_err_and c.from_residual.result c.from_residual.ensures.1 in
    rw (p.1, p.2) (converts _ (λ i. (c.type_inv.message i).fits)
    (convert_refused _ _ _ c.uncompress.auto.out _ c.in_err-form.ensures))

pub deliver-requires : goal.deliver-requires
deliver-requires c =
    let u = c.in_ok-form.ensures in
    let l = convert_bounded u (λ i. (c.type_inv.message i).fits) in (convert_accepted u, l.0, l.1)

pub returns : goal.returns
returns c =
    converts _ (λ i. (c.type_inv.message i).fits)
    (convert_whole _ _ _ c.uncompress.auto.out c.deliver.ensures)
