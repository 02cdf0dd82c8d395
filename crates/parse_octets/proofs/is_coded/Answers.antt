use Rattle.std.proofs.Common.{arith}
use Rattle.std.proofs.lemmas.Bool.Decides.{nat_tests}
use Rattle.strict.specs.Spelt.{coded?}
use Rattle.parse_octets.proofs.is_coded.Goals as goal

pub returns-after-matches : goal.returns-after-matches
unfolding coded?
returns-after-matches c = grind (arith, nat_tests)

pub returns-else-not-is_plain : goal.returns-else-not-is_plain
unfolding coded?
returns-else-not-is_plain c = grind (arith, nat_tests)
