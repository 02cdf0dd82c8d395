-- `forms::put_section` meets its contract: to write the entries that are left is to write the whole section.
use Rattle.forms.specs.Putting.{SectionLoop}
use Rattle.forms.proofs.put_section.Given as goal

abbrev pub invariant-loop-turn : goal.invariant-loop-turn
invariant-loop-turn g l = SectionLoop g.K.Kind.part_at l.s l.count l.at l.initial.out l.to l._turn l.done l.out
