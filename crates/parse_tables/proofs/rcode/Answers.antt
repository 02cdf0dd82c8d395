-- `parse_tables::rcode` meets its contract: the table of RCODE.
use Rattle.edns.specs.Edns.{rcodes}
use Rattle.parse_tables.specs.Rows.{row_table}
use Rattle.parse_tables.proofs.rcode.Goals as goal

pub returns : goal.returns
returns c = row_table rcodes c.rcode_table.ensures c.row_of.ensures
