use Rattle.std.proofs.Common.{arith, rules}
use Rattle.octets.proofs.Writing.{decimal_longer, decimal-length, wrote_digit, wrote_digits}
use Rattle.octets.proofs.+put_decimal.Goals as goal

pub returns-then-n-lt10-clause-wrote : goal.returns-then-n-lt10-clause-wrote
returns-then-n-lt10-clause-wrote t c = search (wrote_digit, rules)

pub returns-clause-wrote : goal.returns-clause-wrote
returns-clause-wrote t c = search (wrote_digits, rules)

pub returns-clause-upper_bound : goal.returns-clause-upper_bound
returns-clause-upper_bound t c = omega (arith, decimal-length _ c.ranges.n.fits, decimal_longer _ c.if-n-lt10.false)
