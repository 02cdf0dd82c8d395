-- `parse_tables::option_name` meets its contract: the rows of the code are computed to be those of the table of options.
use Rattle.std.proofs.Common.{refl}
use Rattle.options.specs.Options.{members, rows}
use Rattle.parse_tables.specs.Rows.{row_table}
use Rattle.parse_tables.proofs.option_name.Goals as goal

pub returns : goal.returns
unfolding members rows
returns c = row_table members refl c.row_of.ensures
