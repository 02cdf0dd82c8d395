use Rattle.std.proofs.Common.{rules}
use Rattle.parse_octets.proofs.Found.{here, past, stops_end, reads_one, stops_here}
use Rattle.parse_octets.proofs.Found.{from_end, digit_taken, digit_under, digit_over}
use Rattle.parse_octets.proofs.digit.Goals as goal

pub returns-in-Some : goal.returns-in-Some
returns-in-Some c = search (reads_one, digit_taken, here, rules)

pub returns-in_default : goal.returns-in_default
returns-in_default c = search (stops_here, digit_over, here, rules)

pub returns-in_default-2 : goal.returns-in_default-2
returns-in_default-2 c = search (stops_here, digit_under, here, rules)

pub returns-in_default-3 : goal.returns-in_default-3
returns-in_default-3 c =
    stops_end (from_end c.args.low c.args.high) (past _ _ _ c.get.ensures.lookup c.in_default.is) c.requires.0
