use Rattle.std.proofs.Common.{arith}
use Rattle.std.proofs.lemmas.Bool.Decides.{nat_tests}
use Rattle.strict.specs.Spelt.{bare?}
use Rattle.spelling.specs.Spelling.{printable?}
use Rattle.parse_octets.proofs.is_bare.Goals as goal

pub returns-after-matches : goal.returns-after-matches
unfolding bare? printable?
returns-after-matches c = grind (arith, nat_tests)

pub returns-else-matches : goal.returns-else-matches
unfolding bare? printable?
returns-else-matches c = grind (arith, nat_tests)
