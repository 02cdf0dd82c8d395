-- `print_options::put_member` meets its contract: a value of the shape of its code, and every other.
use borrow.Author.Rules.{rules}
use native.Mathlib.Omega.{arith}
use Rattle.octets.specs.Writes.{writes_as, writes_then}
use Rattle.options.specs.Shapes.{syntax_none}
use Rattle.print_options.specs.Writing.{listed_text, other_text}
use Rattle.print_options.proofs.put_member.Goals as goal

pub returns-in-Some-clause-wrote : goal.returns-in-Some-clause-wrote
returns-in-Some-clause-wrote c =
    let name = rw c.name.ensures.name at c.put_all.ensures in
    let value = rw c.in-Some.ensures at c.put_value.ensures.wrote in
    writes_as (listed_text c.args.code c.args.value.now (search rules))
    (writes_then c.put.ensures (writes_then name (writes_then c.put_all-in-Some.ensures value)))

pub returns-in_default-clause-wrote : goal.returns-in_default-clause-wrote
returns-in_default-clause-wrote c =
    writes_as (grind (arith, other_text, syntax_none)) c.put_other.ensures.wrote
