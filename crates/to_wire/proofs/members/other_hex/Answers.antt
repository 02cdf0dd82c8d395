-- `to_wire::members::other_hex` meets its contract: octets in hexadecimal, with their code and length before them.
use Rattle.parse_tokens.specs.Value.{exit_is}
use Rattle.to_wire.specs.Options.{other_hex_lem, other_hex_stop}
use Rattle.to_wire.proofs.members.other_hex.Goals as goal

pub returns-in_err-c : goal.returns-in_err-c
returns-in_err-c c = rw (exit_is c.from_residual.ensures.1) (other_hex_stop c.args.n c.in_err-c.ensures.read)

pub returns : goal.returns
returns c = other_hex_lem c.args.n c.in_ok-c.ensures.read c.reserve.ensures c.put_hex-end.ensures c.other_fits.ensures
    c.demand-end.ensures c.put_option_head.ensures
