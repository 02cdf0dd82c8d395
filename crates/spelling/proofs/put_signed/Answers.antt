-- `spelling::put_signed` meets its contract: the number itself, or a minus and its distance from 2 ^ 32.
use native.Mathlib.Omega.{arith}
use mathlib.Core.Path.{◌≡◌}
use Prim.Native.Nat.{◌-◌, ◌≤◌, ◌<◌}
use Rattle.std.proofs.lemmas.Int.{ints}
use Rattle.octets.specs.Writes.{writes_as, writes_then}
use Rattle.spelling.proofs.Writing.{signed_plus, signed_minus}
use Rattle.spelling.proofs.put_signed.Goals as goal
use Rattle.spelling.proofs.put_signed.Goals.{then-is_negative, else-is_negative}

pub returns-clause-wrote : goal.returns-clause-wrote
returns-clause-wrote c = elim c.if-is_negative.branch [
  | then-is_negative w ↦
      let h : 2147483648 ≤ c.args.n = grind (arith, ints) in
      let e : c.unsigned_abs.result ≡ 4294967296 - c.args.n = grind (arith, ints) in
      writes_as (signed_minus c.args.n h) (writes_then w.put.ensures (rw (← w.w-is, ← e) c.put_decimal.ensures.wrote))
  | else-is_negative w ↦
      let h : c.args.n < 2147483648 = grind (arith, ints) in
      let e : c.unsigned_abs.result ≡ c.args.n = grind (arith, ints) in
      writes_as (signed_plus c.args.n h) (rw (← w.w-is, ← e) c.put_decimal.ensures.wrote)
]
