use Rattle.std.proofs.Common.{arith, rules}
use Rattle.strict.specs.Spelt.{escape, ddd}
use Rattle.parse_octets.proofs.Found.{here, past, reads_one, stops_short, reads_two, stops_next, goes_on, digits_there}
use Rattle.parse_octets.proofs.Found.{digits_end}
use Rattle.parse_octets.proofs.Found.{dot_taken, slash_alone, slash_other, slash_taken}
use Rattle.parse_octets.proofs.escaped.Goals as goal
use Rattle.parse_octets.proofs.escaped.Goals.{in_default-get-via-in-Some+in_default, in_default-get-via-in_default}
use Rattle.parse_octets.proofs.escaped.Goals.{in_default-via-in-Some+in_default, in_default-via-in_default}

pub returns-in-Some-eq46 : goal.returns-in-Some-eq46
returns-in-Some-eq46 c = search (reads_one, dot_taken, here, rules)

pub returns-in-Some-eq92-get : goal.returns-in-Some-eq92-get
returns-in-Some-eq92-get c = search (reads_two, slash_taken, here, rules)

pub returns-in_default-get : goal.returns-in_default-get
returns-in_default-get c = elim c.in_default-get.branch [
  | in_default-get-via-in-Some+in_default w ↦ search (stops_next, slash_other, here, rules)
  | in_default-get-via-in_default w ↦
      stops_short {x = c.in-Some-eq92.field-0.now} (search (here, rules)) (search (slash_alone, rules))
      (past _ _ _ c.get-in-Some-eq92.ensures.lookup w.in_default-get.is)
]

pub returns-in_default : goal.returns-in_default
returns-in_default c = goes_on _ _ _ escape (ddd 3 0) _ (elim c.in_default.branch [
  | in_default-via-in-Some+in_default w ↦
      digits_there {t = c.args.text.now} {at = c.args.at} {x = w.in_default.field-0.now} (search (here, rules))
      (search (w.in_default.field-0-test.0.1, rules)) (search (w.in_default.field-0-test.1, rules))
  | in_default-via-in_default w ↦ digits_end _ (past _ _ _ c.get.ensures.lookup w.in_default.is)
]) (omega arith) c.coded.ensures
