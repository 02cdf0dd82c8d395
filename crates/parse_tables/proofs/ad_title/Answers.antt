-- `parse_tables::ad_title` meets its contract: the rows of the code are computed to be those of the table of AD's titles.
use Rattle.std.proofs.Common.{refl}
use Rattle.json_text.specs.Document.{ad_titles}
use Rattle.parse_tables.specs.Rows.{row_table, title_bit}
use Rattle.parse_tables.proofs.ad_title.Goals as goal

pub returns : goal.returns
unfolding ad_titles
returns c = let x = row_table ad_titles refl c.row_of.ensures in record {
  row_read = x;
  key_bound = title_bit c.row_of.result x;
}
