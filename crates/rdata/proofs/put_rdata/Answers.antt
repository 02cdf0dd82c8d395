-- `rdata::put_rdata` meets its contract: RDATA of a listed TYPE by its layout, other RDATA as it is.
use Rattle.std.specs.Prelude.{◌≡◌, refl, take, drop, ◌+◌, ◌-◌}
use Rattle.std.proofs.Common.{ap}
use borrow.Author.Rules.{rules}
use native.Mathlib.Omega.{arith}
use Rattle.std.proofs.lemmas.List.{length-map}
use Rattle.records.specs.Answer.{piece_of}
use Rattle.records.proofs.Pieces.{listed_small}
use Rattle.rdata.proofs.FormLaws.{puts_ends}
use Rattle.rdata.proofs.Loop.{puts_listed, puts_plain}
use Rattle.rdata.proofs.put_rdata.Goals as goal
use Rattle.rdata.proofs.put_rdata.Goals.{in_default-via-in-Some+else-start-end, in_default-via-in_default}

pub put_layout-requires : goal.put_layout-requires
put_layout-requires g c =
    let k = (listed_small _ _ c.in-Some.ensures).0 in
    let e = length-map c.in-Some.layout.now piece_of in
    omega (arith, c.requires)

pub returns-in-Some-clause-puts_rdata : goal.returns-in-Some-clause-puts_rdata
returns-in-Some-clause-puts_rdata g c =
    puts_listed _ _ _ _ c.in-Some.ensures refl c.if-start-end.true c.put_layout.ensures

pub returns-in-Some-clause-ends : goal.returns-in-Some-clause-ends
returns-in-Some-clause-ends g c =
    puts_ends g.met.T.Notation.laws _ _ _ _
    (puts_listed _ _ _ _ c.in-Some.ensures refl c.if-start-end.true c.put_layout.ensures)
    (search rules) (search rules)

pub returns-in_default-clause-puts_rdata : goal.returns-in_default-clause-puts_rdata
returns-in_default-clause-puts_rdata g c =
    let n : c.args.start + c.args.size - c.args.start ≡ c.args.size = omega arith in
    puts_plain _ c.args.rtype _ _
    (λ h. elim c.in_default.branch [
      | in_default-via-in-Some+else-start-end w ↦ absurd (omega (arith, h, w.if-start-end.false))
      | in_default-via-in_default w ↦ w.in_default.ensures
    ])
    (ap (λ k. take k (drop c.args.start c.args.s.now)) n) c.put.ensures
