-- The parts stand in the buffer one after another, and there is room for all.
use Rattle.std.proofs.Common.{rules, ap, ◌∙◌}
use Rattle.streams.specs.Failures.{failure_line}
use Rattle.octets.specs.Writes.{writes_then}
use Rattle.streams.proofs.Lines.{begins_line, told, told_part}
use Rattle.streams.proofs.tell_failure.Goals as goal

pub returns : goal.returns
returns g c =
    let (reason, short, put) = c.put_reason.ensures in
    let name = writes_then c.put_all.ensures c.put_all-2.ensures in
    let call = writes_then (writes_then name c.put_all-3.ensures) c.put_all-4.ensures in
    let number = writes_then (writes_then call c.put_decimal.ensures.wrote) c.put_all-5.ensures in
    let all = writes_then (writes_then number put) c.put.ensures in
    let line = begins_line all c.at-w.ensures.place (search rules) c.place-n.ensures (search rules)
    ∙ ap (λ n. failure_line c.args.name.now c.args.call.now n reason) c.error_number.ensures in record {
      all = told _ _ _ _ _ c.args.error.now reason line c.write_octets.ensures.all;
      some = told_part _ _ _ _ _ c.args.error.now reason line c.write_octets.ensures.some;
    }
