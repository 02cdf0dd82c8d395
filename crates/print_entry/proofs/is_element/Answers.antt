-- `print_entry::is_element` meets its contract: each test in order.
use native.Mathlib.Omega.{arith}
use Rattle.print_entry.proofs.Showing.{shows_not, shows_is}
use Rattle.print_entry.proofs.is_element.Goals as goal

pub returns-then-head-eq41 : goal.returns-then-head-eq41
returns-then-head-eq41 c = grind (arith, shows_is)

pub returns-else-head-eq41 : goal.returns-else-head-eq41
returns-else-head-eq41 c = grind (arith, shows_not)
