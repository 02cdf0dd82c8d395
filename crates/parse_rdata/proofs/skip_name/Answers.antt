use Rattle.parse_rdata.specs.Skipping.{from_start, skip_past, skip_root, skip_bits}
use Rattle.parse_rdata.specs.Skipping.{skip_cut, skip_long, skip_label}
use borrow.Author.Rules.{rules}
use Rattle.parse_rdata.proofs.skip_name.Goals as goal

pub loop-place-init : goal.loop-place-init
loop-place-init g c = (search rules, from_start _ _)

pub returns-then-place-size : goal.returns-then-place-size
returns-then-place-size g c = search (skip_past, rules)

pub returns-then-x-eq0 : goal.returns-then-x-eq0
returns-then-x-eq0 g c = search (skip_root, rules)

pub returns-then-x-gt63 : goal.returns-then-x-gt63
returns-then-x-gt63 g c = search (skip_bits, rules)

pub returns-then-size-place : goal.returns-then-size-place
returns-then-size-place g c = search (skip_cut, rules)

pub returns-then-more-gt254 : goal.returns-then-more-gt254
returns-then-more-gt254 g c = search (skip_long, rules)

pub loop-place-preserved : goal.loop-place-preserved
loop-place-preserved g c = (search rules, search (skip_label, rules))
