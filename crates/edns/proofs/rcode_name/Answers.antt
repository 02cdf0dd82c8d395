-- `edns::rcode_name` meets its contract: the first row with the number, or none.
use Rattle.std.proofs.Common.{rules, tests}
use Rattle.std.specs.Prelude.{◌==◌}
use Rattle.std.proofs.lemmas.Iterator.{YieldsList-from_slice}
use Rattle.std.proofs.lemmas.Iterator.Search.{find_from_yields_List}
use Rattle.edns.specs.Edns.{rcodes}
use Rattle.edns.proofs.Finding.{Row, row_found}
use Rattle.edns.proofs.rcode_name.Goals as goal

pub returns-in_err-row : goal.returns-in_err-row
returns-in_err-row c =
    let found = row_found _ _ c.args.n rcodes c.rcode_table.ensures
    (find_from_yields_List (λ (row : Row). row.0 == c.args.n) _ _ c.find.result c.find.ensures.ran
    (YieldsList-from_slice c.rcode_table.result.now cc) (λ x b q k. search (rules, tests))) in
    rw c.from_residual.ensures (rw c.in_err-row.was at found)

pub returns : goal.returns
returns c =
    let found = row_found _ _ c.args.n rcodes c.rcode_table.ensures
    (find_from_yields_List (λ (row : Row). row.0 == c.args.n) _ _ c.find.result c.find.ensures.ran
    (YieldsList-from_slice c.rcode_table.result.now cc) (λ x b q k. search (rules, tests))) in
    rw c.in_ok-row.was at found
