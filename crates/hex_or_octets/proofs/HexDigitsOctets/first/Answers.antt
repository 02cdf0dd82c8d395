-- `hex_or_octets::HexDigits::first` meets its contract: the digits of the first octets.
use Rattle.std.proofs.Common.{◌*◌, arith, sym}
use Rattle.std.proofs.lemmas.List.{length-take-le}
use Rattle.hex_or_octets.specs.Digits.{paired_half, hexes_first, paired_first}
use Rattle.hex_or_octets.proofs.HexDigitsOctets.first.Goals as goal

pub slice_bounds-new-end : goal.slice_bounds-new-end
slice_bounds-new-end c =
    let digits = c.args.self.digits.now in
    sym (length-take-le (2 * c.args.n) digits (omega (arith, paired_half digits)))

pub new-requires : goal.new-requires
new-requires c = hexes_first c.args.self.spelled c.args.n

pub returns : goal.returns
returns c = rw c.new.ensures (paired_first c.args.self.spelled c.args.n)
