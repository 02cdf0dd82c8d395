-- `print_values::put_number` meets its contract: one octet has at most three digits, two have at most five.
use native.Mathlib.Omega.{arith}
use Rattle.octets.proofs.Writing.{decimal_short}
use Rattle.print_values.proofs.put_number.Goals as goal

pub returns-clause-upper_bound : goal.returns-clause-upper_bound
returns-clause-upper_bound c =
    let n = c.if-octets-lt1.put_decimal in
    grind (arith, c.put_decimal.ensures.wrote.wrote.place, decimal_short 2 n, decimal_short 4 n)
