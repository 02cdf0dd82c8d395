use borrow.Author.Rules.{rules}
use Rattle.records.proofs.Reading.{begun_faulty, name-within, fields-start, fields_more, begun_cut, begun-whole}
use Rattle.records.proofs.Reading.{begun_fits}
use Rattle.records.proofs.owner_at.Goals as goal

pub returns-in_err-name-clause-value : goal.returns-in_err-name-clause-value
returns-in_err-name-clause-value c = search (begun_faulty, c.in_err-name.ensures, rules)

pub loop-width-init : goal.loop-width-init
loop-width-init c = (name-within _ c.args.widths.now _ c.in_ok-name.ensures, fields-start _ _ _)

pub returns-then-s-end-clause-value : goal.returns-then-s-end-clause-value
returns-then-s-end-clause-value c = search (begun_cut, c.in_ok-name.ensures, rules)

pub loop-width-preserved : goal.loop-width-preserved
loop-width-preserved c = (search rules, search (fields_more, rules))

pub returns-clause-value : goal.returns-clause-value
returns-clause-value c = search (begun-whole, c.in_ok-name.ensures, rules)

pub returns-clause-begins : goal.returns-clause-begins
returns-clause-begins c = search (begun_fits, c.in_ok-name.ensures, rules)
