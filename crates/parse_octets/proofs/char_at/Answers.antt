use Rattle.std.proofs.Common.{rules}
use Rattle.parse_octets.proofs.Found.{here, past, stops_end, reads_one, stops_here, stops_short, reads_two, stops_next}
use Rattle.parse_octets.proofs.Found.{string_end, bare_taken, not_quoted, quoted_alone, quoted_other, quoted_taken}
use Rattle.parse_octets.proofs.char_at.Goals as goal
use Rattle.parse_octets.proofs.char_at.Goals.{in_default-get-via-in-Some+in_default, in_default-get-via-in_default}

pub returns-in-Some : goal.returns-in-Some
returns-in-Some c = search (reads_one, bare_taken, here, rules)

pub returns-in-Some-eq34 : goal.returns-in-Some-eq34
returns-in-Some-eq34 c = search (reads_two, quoted_taken, here, rules)

pub returns-in_default-get : goal.returns-in_default-get
returns-in_default-get c = elim c.in_default-get.branch [
  | in_default-get-via-in-Some+in_default w ↦ search (stops_next, quoted_other, here, rules)
  | in_default-get-via-in_default w ↦
      stops_short {x = c.in-Some.field-0.now} (search (here, rules)) (search (quoted_alone, rules))
      (past _ _ _ c.get-in-Some-eq92.ensures.lookup w.in_default-get.is)
]

pub returns-in_default : goal.returns-in_default
returns-in_default c = search (stops_here, not_quoted, here, rules)

pub returns-in_default-2 : goal.returns-in_default-2
returns-in_default-2 c = stops_end string_end (past _ _ _ c.get.ensures.lookup c.in_default.is) c.requires
