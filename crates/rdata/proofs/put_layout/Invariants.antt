-- `rdata::put_layout` meets its contract: to put the pieces from the next one on is to put all of RDATA.
use mathlib.Core.List.{map}
use Rattle.records.specs.Answer.{piece_of}
use Rattle.rdata.proofs.Loop.{LayoutLoop}
use Rattle.rdata.proofs.put_layout.Given as goal

abbrev pub invariant-loop-piece : goal.invariant-loop-piece
invariant-loop-piece g l =
    LayoutLoop g.T.Notation.text l.s (map piece_of l.layout) l.start l.end l.initial.w l.piece-index l.at l.w
