-- `octets::put_all` meets its contract: what has room is copied, and past the end nothing is written.
use native.Mathlib.Omega.{arith}
use mathlib.Core.Path.{refl}
use Rattle.octets.specs.Overlay.{wrote_past}
use Rattle.octets.proofs.Writing.{wrote_part}
use Rattle.octets.proofs.put_all.Goals as goal

pub returns-then-to-out : goal.returns-then-to-out
returns-then-to-out c = wrote_part _ _ (omega arith) (omega arith) c.copy-then-to-out.ensures

pub returns-else-to-out : goal.returns-else-to-out
returns-else-to-out c = wrote_past _ _ _ c.if-to-out.false refl
