use Rattle.std.proofs.Common.{arith}
use Rattle.std.proofs.lemmas.Bool.Decides.{nat_tests}
use Rattle.spelling.specs.Spelling.{plain?}
use Rattle.parse_octets.proofs.is_plain.Goals as goal

pub returns-after-matches : goal.returns-after-matches
unfolding plain?
returns-after-matches c = grind (arith, nat_tests)

pub returns-else-matches : goal.returns-else-matches
unfolding plain?
returns-else-matches c = grind (arith, nat_tests)
