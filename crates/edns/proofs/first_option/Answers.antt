-- `edns::first_option` meets its contract: code, value, and what is after them.
use Rattle.std.proofs.Common.{arith}
use Rattle.edns.proofs.Ways.{first_some}
use Rattle.edns.proofs.first_option.Goals as goal

pub returns : goal.returns
returns g c =
    let code = c.be16_at-code.ensures in
    first_some (g.O.Octets.octets c.args.rdata) (omega (arith, c.count.ensures, c.if-count-lt4.false)) code.value
    code.upper_bound c.be16_at-size.ensures.value c.after-rest.ensures
    (omega (arith, c.count-2.ensures, c.if-count-size.false)) c.first.ensures c.after.ensures
