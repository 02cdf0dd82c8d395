use Rattle.std.proofs.Common.{arith, rules, ◌∙◌}
use Rattle.strict.specs.Spelt.{escape, spelled_at}
use Rattle.parse_octets.proofs.Found.{here, reads_one, past, stops_end, stops_here, stops_short, stops_next, goes_on}
use Rattle.parse_octets.proofs.Found.{both_here, spelled_end, plain_taken, not_spelled, backslash_alone}
use Rattle.parse_octets.proofs.Found.{backslash_other, backslashes}
use Rattle.parse_octets.proofs.octet.Goals as goal
use Rattle.parse_octets.proofs.octet.Goals.{in_default-get-via-in-Some+in_default, in_default-get-via-in_default}

pub returns-in-Some : goal.returns-in-Some
returns-in-Some c = search (reads_one, plain_taken, here, rules)

pub returns-in-Some-eq92-get : goal.returns-in-Some-eq92-get
returns-in-Some-eq92-get c =
    goes_on _ _ _ spelled_at escape _ (search (both_here, backslashes, here, rules, ◌∙◌)) (omega arith)
    c.escaped.ensures

pub returns-in_default-get : goal.returns-in_default-get
returns-in_default-get c = elim c.in_default-get.branch [
  | in_default-get-via-in-Some+in_default w ↦ search (stops_next, backslash_other, here, rules)
  | in_default-get-via-in_default w ↦
      stops_short {x = c.in-Some.field-0.now} (search (here, rules)) (search (backslash_alone, rules))
      (past _ _ _ c.get-in-Some-eq92.ensures.lookup w.in_default-get.is)
]

pub returns-in_default : goal.returns-in_default
returns-in_default c = search (stops_here, not_spelled, here, rules)

pub returns-in_default-2 : goal.returns-in_default-2
returns-in_default-2 c = stops_end spelled_end (past _ _ _ c.get.ensures.lookup c.in_default.is) c.requires
