-- `to_wire::members::known_member` meets its contract: a name of the table and the value of its code.
use Rattle.parse_tokens.specs.Value.{exit_is}
use Rattle.to_wire.specs.Options.{name_word, known_read, known_stop, known_nameless}
use Rattle.to_wire.proofs.members.known_member.Goals as goal

pub returns-in_err-c : goal.returns-in_err-c
returns-in_err-c c = rw (exit_is c.from_residual.ensures.1) (known_nameless c.in_err-c.ensures)

pub listed_option-requires : goal.listed_option-requires
listed_option-requires c = (c.in_ok-c.ensures.keeps.moves.within.0, name_word c.in_ok-c.ensures)

pub returns-in_err-c-2 : goal.returns-in_err-c-2
returns-in_err-c-2 c =
    rw (exit_is c.from_residual-in_err-c-2.ensures.1) (known_stop c.in_ok-c.ensures c.in_err-c-2.ensures)

pub returns : goal.returns
returns c = known_read c.in_ok-c.ensures c.in_ok-c-2.ensures
