-- `parse_rdata::fits_layout` meets its contract: RDATA of a listed TYPE by its layout; other RDATA fits.
use native.Mathlib.Omega.{arith}
use Rattle.parse_rdata.proofs.Fitting.{fits_listed, fits_plain}
use Rattle.parse_rdata.proofs.fits_layout.Goals as goal

pub returns-in-Some : goal.returns-in-Some
returns-in-Some g c =
    fits_listed _ _ _ c.count.ensures c.if-count-gt0.true c.in-Some.ensures c.follows.ensures

pub returns-in_default : goal.returns-in_default
returns-in_default g c =
    fits_plain _ _ (λ h. absurd (omega (arith, h, c.if-count-gt0.false, c.count.ensures)))

pub returns-in_default-2 : goal.returns-in_default-2
returns-in_default-2 g c = fits_plain _ _ (λ h. rw c.in_default.is at c.layout_of.ensures)
