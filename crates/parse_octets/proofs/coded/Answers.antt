use Rattle.std.proofs.Common.{rules}
use Rattle.parse_octets.proofs.Digits.{first_stops, second_stops, third_stops, taken, not_taken, too_large}
use Rattle.parse_octets.proofs.coded.Goals as goal

pub returns-in_err-first : goal.returns-in_err-first
returns-in_err-first c = search (first_stops, rules)

pub returns-in_err-second : goal.returns-in_err-second
returns-in_err-second c = search (second_stops, rules)

pub returns-in_err-third : goal.returns-in_err-third
returns-in_err-third c = search (third_stops, rules)

pub returns-in-Ok : goal.returns-in-Ok
returns-in-Ok c = search (taken, rules)

pub returns-in_default : goal.returns-in_default
returns-in_default c = search (not_taken, rules)

pub returns-in_default-2 : goal.returns-in_default-2
returns-in_default-2 c = search (too_large, rules)
