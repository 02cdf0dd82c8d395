use borrow.Author.Rules.{rules}
use Rattle.std.proofs.lemmas.List.{length-map}
use Rattle.records.proofs.Pieces.{piece_here}
use Rattle.parse_rdata.proofs.Fitting.{fits_short, fits_part, fits_unfit, fits_name, fits_end}
use Rattle.parse_rdata.proofs.follows.Goals as goal
use Rattle.parse_rdata.proofs.follows.Goals.{in-Fixed+else-size-at, in-Name+in-Some}

pub returns-then-size-at : goal.returns-then-size-at
returns-then-size-at g c =
    fits_short c.loop-piece.invariant (piece_here _ _ _ _ c.loop-piece-test.true c.in-Fixed.is) c.if-size-at.true

pub returns-in_default : goal.returns-in_default
returns-in_default g c =
    fits_unfit c.loop-piece.invariant (piece_here _ _ _ _ c.loop-piece-test.true c.in-Name.is) c.in_default.ensures

pub loop-piece-preserved : goal.loop-piece-preserved
loop-piece-preserved g c = elim c.match-piece.branch [
  | in-Fixed+else-size-at w ↦ rw w.at-is
      (fits_part c.loop-piece.invariant (piece_here _ _ _ _ c.loop-piece-test.true w.in-Fixed.is) w.if-size-at.false)
  | in-Name+in-Some w ↦ rw w.at-is
      (fits_name c.loop-piece.invariant (piece_here _ _ _ _ c.loop-piece-test.true w.in-Name.is) _ w.in-Some.ensures)
]

pub returns : goal.returns
returns g c = fits_end c.loop-piece.invariant (search (length-map, c.loop-piece-test.false, rules))
