use Rattle.parse_tables.specs.Rows.{trying_here, trying_more}
use Rattle.parse_tables.proofs.row_of.Goals as goal

pub returns-in-Ok : goal.returns-in-Ok
returns-in-Ok c = trying_here c.loop-row.invariant _ c.loop-row-test.true c.in-Ok.ensures

pub loop-row-preserved : goal.loop-row-preserved
loop-row-preserved c = trying_more c.loop-row.invariant _ c.loop-row-test.true c.in-Err.ensures c.max-far.ensures
