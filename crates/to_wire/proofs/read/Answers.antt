use Rattle.std.proofs.Common.{rules}
use Rattle.std.proofs.lemmas.Result.{MatchResult-weaker, err_from_is_err_and}
use Rattle.to_wire.proofs.Promise.{read_refused, read_left, read_meaningless, read_large, read_long, read_message}
use Rattle.to_wire.proofs.read.Goals as goal

pub returns-in_err-end : goal.returns-in_err-end
returns-in_err-end c =
    let p = err_from_is_err_and c.from_residual.result c.from_residual.ensures.1 in
    rw (p.1, p.2) (read_refused _ _ _ c.document.auto.out c.document.result _ c.document.ensures
    (MatchResult-weaker c.document.result c.in_err-end.ensures.cases (λ end e. search rules) (λ stop e. search rules)))

pub returns-then-end-text : goal.returns-then-end-text
returns-then-end-text c = rw c.at.ensures (search (read_left, rules))

pub returns-then-not-end : goal.returns-then-not-end
returns-then-not-end c = rw c.at-then-not-end.ensures (search (read_meaningless, rules))

pub returns-then-not-end-2 : goal.returns-then-not-end-2
returns-then-not-end-2 c = rw c.at-then-not-end-2.ensures (search (read_large, rules))

pub returns-then-end-message : goal.returns-then-end-message
returns-then-end-message c = rw c.at-then-end-message.ensures (search (read_long, rules))

pub returns : goal.returns
returns c = search (read_message, rules)
