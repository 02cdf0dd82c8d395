use borrow.Author.Rules.{rules}
use Rattle.octets.specs.Overlay.{same_long}
use Rattle.names.specs.Ways.{from_start, root_kept, label_kept, name-past, root_read, label_cut}
use Rattle.names.specs.Ways.{label-long, label_read, bits_reserved, pointer_cut, target_low, target_far, jump_read}
use Rattle.names.specs.Stored.{zeros_label, zeros_root}
use Rattle.names.proofs.name_at.Goals as goal
use Rattle.names.proofs.name_at.Goals.{then-target-lt12-via-then-target-lt12}
use Rattle.names.proofs.name_at.Goals.{then-target-lt12-via-else-target-lt12+then-target-low}

pub loop-place-init : goal.loop-place-init
loop-place-init c = (search rules, search rules, search rules, search (from_start, rules), search rules)

pub returns-then-place-end : goal.returns-then-place-end
returns-then-place-end c = search (name-past, rules)

pub returns-then-x-eq0 : goal.returns-then-x-eq0
returns-then-x-eq0 c =
    root_read _ _ _ _ _ _ _ c.loop-place.invariant.3 c.end-end.ensures (search rules) (search rules) c.if-x-eq0.true
    (root_kept _ _ (search rules)) c.unwrap_or.ensures

pub returns-then-after-end : goal.returns-then-after-end
returns-then-after-end c = search (label_cut, rules)

pub returns-then-more-gt254 : goal.returns-then-more-gt254
returns-then-more-gt254 c = search (label-long, rules)

pub loop-place-preserved-then-x-le63 : goal.loop-place-preserved-then-x-le63
loop-place-preserved-then-x-le63 c = (
  search rules,
  search rules,
  rw (same_long c.put_all.ensures) c.loop-place.invariant.2,
  label_read _ _ _ _ _ _ _ c.loop-place.invariant.3 c.end-end.ensures (search rules) (search rules) (search rules)
      (search rules) (search rules) _ (search rules) (search rules)
      (label_kept c.args.s.now c.loop-place.octets {at = c.loop-place.place} (search rules) (search rules) (search rules) (search rules) (search rules) c.put_all.ensures),
  zeros_label c.args.s.now c.loop-place.octets c.loop-place.total c.loop-place.place c.wide-x.result (search rules) (search rules) (search rules) c.put_all.ensures c.loop-place.invariant.4,
)

pub returns-then-x-lt192 : goal.returns-then-x-lt192
returns-then-x-lt192 c = search (bits_reserved, rules)

pub returns-then-place-end-2 : goal.returns-then-place-end-2
returns-then-place-end-2 c = search (pointer_cut, rules)

pub returns-then-target-lt12 : goal.returns-then-target-lt12
returns-then-target-lt12 c = elim c.then-target-lt12.branch [
  | then-target-lt12-via-then-target-lt12 w ↦ search (target_low, rules)
  | then-target-lt12-via-else-target-lt12+then-target-low w ↦ search (target_far, rules)
]

pub loop-place-preserved : goal.loop-place-preserved
loop-place-preserved c = (search rules, search rules, search rules, search (jump_read, rules), c.loop-place.invariant.4)

pub invariant_of-name : goal.invariant_of-name
invariant_of-name c = (search rules, search rules, zeros_root _ _ c.loop-place.invariant.4)
