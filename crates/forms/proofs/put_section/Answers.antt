use borrow.Author.Rules.{rules}
use Rattle.forms.specs.Putting.{section_stops, section_goes, section_ends}
use Rattle.forms.proofs.put_section.Goals as goal

pub returns-in_err-next-clause-writes_section : goal.returns-in_err-next-clause-writes_section
returns-in_err-next-clause-writes_section g c = search (section_stops, c.in_err-next.ensures.writes_entry, rules)

pub loop-turn-preserved : goal.loop-turn-preserved
loop-turn-preserved g c = let h = c.in_ok-next.ensures in search (section_goes, h.writes_entry, h.reached, h.upper_bound, rules)

pub returns-clause-writes_section : goal.returns-clause-writes_section
returns-clause-writes_section g c = search (section_ends, rules)
