use Prim.Native.Nat.{◌-◌}
use lib.ListN.{length}
use Rattle.parse_tokens.specs.Number.{DigitsLoop}
use Rattle.parse_tokens.proofs.positive.Given as goal

abbrev pub invariant-loop-d : goal.invariant-loop-d
invariant-loop-d l = DigitsLoop l.text l.c l.at l.value

abbrev pub decreases-loop-d : goal.decreases-loop-d
decreases-loop-d l = length l.text - l.at
