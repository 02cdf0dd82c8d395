-- `parse_tables::flags` meets its contract: the rows of the code are computed to be those of the table of FLAGS.
use Rattle.std.proofs.Common.{refl}
use Rattle.edns.specs.Edns.{flags}
use Rattle.parse_tables.specs.Rows.{row_table}
use Rattle.parse_tables.proofs.flags.Goals as goal

pub returns : goal.returns
unfolding flags
returns c = row_table flags refl c.row_of.ensures
