-- `print_message::put_back` meets its contract: two sections and the brace.
use borrow.Author.Rules.{rules}
use Rattle.print_message.specs.Arrays.{authority_readable, additional_readable, back_prints}
use Rattle.print_message.proofs.put_back.Goals as goal

pub put_section-additional-requires : goal.put_section-additional-requires
put_section-additional-requires c = (
  search rules,
  search rules,
  search rules,
  search rules,
  search rules,
  search (authority_readable, rules),
)

pub put_section-end-requires : goal.put_section-end-requires
put_section-end-requires c = (
  search rules,
  search rules,
  search rules,
  search rules,
  search rules,
  search (additional_readable, rules),
)

pub returns : goal.returns
returns c = search (back_prints, rules)
