-- `to_wire::head::put_header` meets its contract: ID, the flags and the counts, one after another.
use Rattle.to_wire.specs.Head.{put_header_lem}
use Rattle.to_wire.proofs.head.put_header.Goals as goal

pub returns : goal.returns
returns c = put_header_lem c.args.numbers c.requires c.put_number-c.ensures c.put_flags-c.ensures c.put_counts.ensures
