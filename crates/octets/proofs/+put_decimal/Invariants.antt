-- `octets::put_decimal` meets its contract: the digits of a tenth, and then the last digit.
use Rattle.octets.proofs.+put_decimal.Given as goal

abbrev pub decreases-put_decimal : goal.decreases-put_decimal
decreases-put_decimal l = l.n
