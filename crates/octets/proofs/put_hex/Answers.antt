-- `octets::put_hex` meets its contract: all octets, as many as have room and a digit of the next, or none.
use mathlib.Core.Path.{◌≡◌, refl}
use Prim.Native.Nat.{◌-◌, ◌/◌}
use native.Mathlib.Omega.{arith}
use lib.ListN.{length, take}
use Rattle.std.proofs.lemmas.List.{length-take-le}
use Rattle.octets.specs.Overlay.{wrote_past}
use Rattle.octets.proofs.Writing.{each-hex-length, hex_cut}
use Rattle.octets.proofs.put_hex.Goals as goal

pub returns-then-to-out-clause-wrote : goal.returns-then-to-out-clause-wrote
returns-then-to-out-clause-wrote c =
    let whole = (length c.args.out.now - c.args.to) / 2 in
    let n : length (take whole c.args.src.now) ≡ whole = length-take-le whole c.args.src.now (omega arith) in
    hex_cut _ whole (omega arith) c.hex_digit.ensures (rw n at c.copy_hex-then-to-out.ensures) (omega arith)
    c.put.ensures refl

pub returns-else-to-out-clause-wrote : goal.returns-else-to-out-clause-wrote
returns-else-to-out-clause-wrote c =
    wrote_past _ _ _ c.if-to-out.false (omega (arith, each-hex-length c.args.src.now))
