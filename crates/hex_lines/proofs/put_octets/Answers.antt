-- Two digits give the octet that is stored.
use Rattle.std.proofs.Common.{refl, rules}
use Rattle.octets.specs.Overlay.{overlay}
use Rattle.hex_lines.proofs.Steps.{spelling_start, two_digits, spelling_more, spelled_all}
use Rattle.hex_lines.proofs.put_octets.Goals as goal

pub loop-rest-init : goal.loop-rest-init
loop-rest-init c = (search rules, spelling_start _ _)

pub digit_value-requires : goal.digit_value-requires
digit_value-requires c = (two_digits c.requires.0 c.loop-rest.invariant.1 c.in-len2-up.len_at_least).0

pub digit_value-requires-in-len2-up : goal.digit_value-requires-in-len2-up
digit_value-requires-in-len2-up c = (two_digits c.requires.0 c.loop-rest.invariant.1 c.in-len2-up.len_at_least).1

pub loop-rest-preserved : goal.loop-rest-preserved
unfolding overlay
loop-rest-preserved c = (
  search rules,
  spelling_more c.requires.0 c.loop-rest.invariant.1 c.in-len2-up.len_at_least c.digit_value.ensures.value
      c.digit_value-in-len2-up.ensures.value record { place = refl; text = refl },
)

pub returns : goal.returns
returns c = spelled_all c.requires.0 c.loop-rest.invariant.1 c.in_default.len_below
