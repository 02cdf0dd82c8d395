-- `print_message::put_text` meets its contract: the head, two sections, and two more with the brace.
use borrow.Author.Rules.{rules}
use Rattle.octets.specs.Writes.{Writes}
use Rattle.print_message.specs.Whole.{profile_text, accepted_room, accepted_small, accepted_text, front_readable}
use Rattle.print_message.specs.Whole.{back_readable}
use Rattle.print_message.proofs.put_text.Goals as goal

pub put_head-requires : goal.put_head-requires
put_head-requires c = (search rules, search (accepted_room, rules))

pub put_front-authority-requires : goal.put_front-authority-requires
put_front-authority-requires c = (
  search (accepted_room, rules),
  search (accepted_small, rules),
  (search (accepted_room, rules), search rules),
  search (front_readable, rules),
)

pub put_back-end-requires : goal.put_back-end-requires
put_back-end-requires c = (
  search (accepted_room, rules),
  search (accepted_small, rules),
  search rules,
  back_readable (search rules) c.put_front-authority.ensures.prints,
)

pub returns : goal.returns
returns c =
    let v : Writes c.at-w.result (profile_text c.args.s.now) c.put_back-end.new.w =
    accepted_text c.requires c.put_front-authority.ensures.prints c.put_head.ensures.wrote c.put_back-end.ensures in
    search rules
