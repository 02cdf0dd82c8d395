-- `forms::uncompress` meets its contract: the first run finds the refusals, the second one writes.
use borrow.Author.Rules.{rules}
use Rattle.forms.specs.Uncompressed.{too_long, too_short, at_fault, left_over, form-long, no_room_lem, with_room}
use Rattle.forms.proofs.uncompress.Goals as goal

pub returns-then-s-gt65535 : goal.returns-then-s-gt65535
returns-then-s-gt65535 c = search (too_long, rules)

pub returns-then-s-lt12 : goal.returns-then-s-lt12
returns-then-s-lt12 c = search (too_short, rules)

pub returns-in_err-end : goal.returns-in_err-end
returns-in_err-end c = at_fault _ _ _ (search (c.in_err-end.ensures, rules)) _ c.from_residual.ensures.1

pub returns-then-end-s : goal.returns-then-end-s
returns-then-end-s c = search (left_over, c.in_ok-end.ensures, rules)

pub returns-then-end-gt65535 : goal.returns-then-end-gt65535
returns-then-end-gt65535 c = search (form-long, c.in_ok-end.ensures, rules)

pub returns-then-end-out : goal.returns-then-end-out
returns-then-end-out c = search (with_room, c.in_ok-end.ensures, rules)

pub returns-else-end-out : goal.returns-else-end-out
returns-else-end-out c = search (no_room_lem, c.in_ok-end.ensures, rules)
