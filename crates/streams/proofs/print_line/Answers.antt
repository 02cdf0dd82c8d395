-- The three parts stand in the buffer one after another.
use Rattle.std.proofs.Common.{rules}
use Rattle.octets.specs.Writes.{writes_then}
use Rattle.streams.proofs.Lines.{begins_line, same_whole, same_part}
use Rattle.streams.proofs.print_line.Goals as goal

pub returns-clause-all : goal.returns-clause-all
returns-clause-all g c =
    let all = writes_then (writes_then c.put_all.ensures c.put_all-2.ensures) c.put_all-3.ensures in
    let line = begins_line all c.at-w.ensures.place (search rules) c.place-n.ensures (search rules) in
    same_whole _ _ _ line c.write_octets.ensures.all

pub returns-clause-some : goal.returns-clause-some
returns-clause-some g c =
    let all = writes_then (writes_then c.put_all.ensures c.put_all-2.ensures) c.put_all-3.ensures in
    let line = begins_line all c.at-w.ensures.place (search rules) c.place-n.ensures (search rules) in
    same_part _ _ _ line c.write_octets.ensures.some
