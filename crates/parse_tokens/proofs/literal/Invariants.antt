use Rattle.parse_tokens.specs.Cursor.{Matching}
use Rattle.parse_tokens.proofs.literal.Given as goal

abbrev pub invariant-loop-i : goal.invariant-loop-i
invariant-loop-i l = Matching l.lit l.text l.c l.i
