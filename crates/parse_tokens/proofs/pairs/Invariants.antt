use Prim.Native.Nat.{◌-◌}
use lib.ListN.{length}
use Rattle.parse_tokens.specs.Hex.{Pairs}
use Rattle.parse_tokens.proofs.pairs.Given as goal

abbrev pub invariant-loop-c : goal.invariant-loop-c
invariant-loop-c l = Pairs l.text l.c l.at

abbrev pub decreases-loop-c : goal.decreases-loop-c
decreases-loop-c l = length l.text - l.at
