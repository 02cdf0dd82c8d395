-- `octets::put` meets its contract: with room it is one store, without it nothing is written.
use borrow.Author.Rules.{rules}
use mathlib.Core.Path.{refl}
use Rattle.octets.specs.Overlay.{overlay, wrote_past}
use Rattle.octets.proofs.put.Goals as goal

pub returns-then-to-out : goal.returns-then-to-out
unfolding overlay
returns-then-to-out c = search rules

pub returns-else-to-out : goal.returns-else-to-out
returns-else-to-out c = wrote_past _ _ _ c.if-to-out.false refl
