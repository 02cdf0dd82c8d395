-- `parse_rdata::follows` meets its contract: what the pieces from the next one on say is the whole answer.
use lib.ListN.{length}
use mathlib.Core.Bool.{false}
use mathlib.Core.List.{map}
use Rattle.records.specs.Answer.{piece_of}
use Rattle.records.specs.Layout.{pieces, laid?}
use Rattle.parse_rdata.proofs.Fitting.{FitLoop}
use Rattle.parse_rdata.proofs.follows.Given as goal

abbrev pub invariant-loop-piece : goal.invariant-loop-piece
invariant-loop-piece g l =
    FitLoop (g.O.Octets.octets l.rdata) (map piece_of l.layout) l.size
    (laid? (pieces false (map piece_of l.layout) (g.O.Octets.octets l.rdata) 0 (length (g.O.Octets.octets l.rdata)) 0)) l.piece-index l.at
