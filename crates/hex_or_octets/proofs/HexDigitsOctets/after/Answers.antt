-- `hex_or_octets::HexDigits::after` meets its contract: the digits after those of the first octets.
use Rattle.std.proofs.Common.{◌≡◌, List, ℕ, ◌*◌, ◌-◌, length, take, drop, arith, length-drop}
use Rattle.std.proofs.lemmas.List.{take_all}
use Rattle.hex_or_octets.specs.Digits.{hexes_after, paired_after}
use Rattle.hex_or_octets.proofs.HexDigitsOctets.after.Goals as goal

-- the digits from a place on
rest : (h : List ℕ) (i : ℕ) → take (length h - i) (drop i h) ≡ drop i h
rest h i = take_all (length h - i) (drop i h) (omega (arith, length-drop i h))

pub new-requires : goal.new-requires
new-requires c = rw (rest c.args.self.digits.now (2 * c.args.n)) (hexes_after c.args.self.spelled c.args.n)

pub returns : goal.returns
returns c =
    rw (c.new.ensures, rest c.args.self.digits.now (2 * c.args.n)) (paired_after c.args.self.spelled c.args.n)
