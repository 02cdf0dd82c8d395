use borrow.Author.Rules.{rules}
use Rattle.octets.specs.Writes.{writes_start, writes_step, writes_ended, writes_then}
use Rattle.spelling.specs.Spelling.{string_text}
use Rattle.spelling.proofs.put_string.Goals as goal

pub loop-x-init : goal.loop-x-init
loop-x-init c = record { wrote = search (writes_start, rules); upper_bound = search rules }

pub loop-x-preserved : goal.loop-x-preserved
loop-x-preserved c = record { wrote = search (writes_step, rules); upper_bound = search rules }

pub returns-clause-wrote : goal.returns-clause-wrote
unfolding string_text
returns-clause-wrote c =
    writes_then c.put.ensures (writes_ended _ _ _ _ c.loop-x-test.false c.loop-x.invariant.wrote c.put-2.ensures)
