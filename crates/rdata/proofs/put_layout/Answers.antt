use borrow.Author.Rules.{rules}
use mathlib.Core.Path.{refl}
use Rattle.std.proofs.lemmas.List.{length-map}
use Rattle.records.proofs.Pieces.{piece_here}
use Rattle.rdata.proofs.Loop.{loop_short, loop_part, loop_faulty, loop_name, loop_surplus, loop_done}
use Rattle.rdata.proofs.put_layout.Goals as goal
use Rattle.rdata.proofs.put_layout.Goals.{in-Fixed+else-end-at, in-Name+in_ok-name-in-Name}

pub returns-then-end-at : goal.returns-then-end-at
returns-then-end-at g c =
    loop_short g.met.T.Notation.laws c.loop-piece.invariant
    (piece_here _ _ _ _ c.loop-piece-test.true c.in-Fixed.is) c.if-end-at.true

pub returns-in_err-name-in-Name : goal.returns-in_err-name-in-Name
returns-in_err-name-in-Name g c =
    let e = loop_faulty g.met.T.Notation.laws c.loop-piece.invariant
    (piece_here _ _ _ _ c.loop-piece-test.true c.in-Name.is) c.in_err-name-in-Name.ensures in
    search (e, rules)

pub loop-piece-preserved : goal.loop-piece-preserved
loop-piece-preserved g c = elim c.match-piece.branch [
  | in-Fixed+else-end-at w ↦ rw (w.w-is, w.at-is)
      (loop_part g.met.T.Notation.laws c.loop-piece.invariant
      (piece_here _ _ _ _ c.loop-piece-test.true w.in-Fixed.is) w.if-end-at.false refl
      (search rules) w.put.ensures)
  | in-Name+in_ok-name-in-Name w ↦ rw (w.w-is, w.at-is)
      (loop_name g.met.T.Notation.laws c.loop-piece.invariant
      (piece_here _ _ _ _ c.loop-piece-test.true w.in-Name.is) (search rules) w.in_ok-name-in-Name.ensures
      (rw w.form.ensures.value at w.put-in-Name.ensures))
]

pub returns-then-at-end : goal.returns-then-at-end
returns-then-at-end g c =
    loop_surplus g.met.T.Notation.laws c.loop-piece.invariant
    (search (length-map, c.loop-piece-test.false, rules)) c.if-at-end.true

pub returns : goal.returns
returns g c =
    loop_done g.met.T.Notation.laws c.loop-piece.invariant
    (search (length-map, c.loop-piece-test.false, rules)) c.if-at-end.false
