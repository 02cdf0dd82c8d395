use Rattle.parse_tables.specs.Rows.{Trying}
use Rattle.parse_tables.proofs.row_of.Given as goal

abbrev pub invariant-loop-row : goal.invariant-loop-row
invariant-loop-row l = Trying l.table l.text l.c l.row-index l.far
