-- `spelling::put_spelled` meets its contract: one way for each kind of spelling.
use borrow.Author.Rules.{rules}
use native.Mathlib.Omega.{arith}
use Rattle.std.proofs.Common.{sym}
use Rattle.octets.specs.Writes.{writes_as}
use Rattle.spelling.specs.Spelling.{plain?, spelled}
use Rattle.spelling.proofs.Writing.{spelled_plain, spelled_quote, spelled_low, spelled_high}
use Rattle.spelling.proofs.put_spelled.Goals as goal

pub returns-in-46-clause-wrote : goal.returns-in-46-clause-wrote
unfolding spelled plain?
returns-in-46-clause-wrote c = rw c.in-46.is c.put_all.ensures

pub returns-in-92-clause-wrote : goal.returns-in-92-clause-wrote
unfolding spelled plain?
returns-in-92-clause-wrote c = rw c.in-92.is c.put_all-in-92.ensures

pub returns-in_default-clause-wrote : goal.returns-in_default-clause-wrote
returns-in_default-clause-wrote c = writes_as (search (spelled_plain, rules)) c.put.ensures

pub returns-in-34-clause-wrote : goal.returns-in-34-clause-wrote
returns-in-34-clause-wrote c =
    writes_as (grind (arith, spelled_quote, spelled_low, spelled_high)) c.put_digits.ensures

pub returns-then-room-place-clause-wrote : goal.returns-then-room-place-clause-wrote
returns-then-room-place-clause-wrote c = c.skip.ensures (spelled c.args.x) (sym c.width.ensures.value)
