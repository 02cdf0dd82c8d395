-- `print_message::put_front` meets its contract: two sections.
use borrow.Author.Rules.{rules}
use Rattle.print_message.specs.Arrays.{questions_readable, answers_readable, front_prints}
use Rattle.print_message.proofs.put_front.Goals as goal

pub put_section-answers-requires : goal.put_section-answers-requires
put_section-answers-requires c = (
  search rules,
  search rules,
  search rules,
  search rules,
  search rules,
  search (questions_readable, rules),
)

pub put_section-requires : goal.put_section-requires
put_section-requires c = (
  search rules,
  search rules,
  search rules,
  search rules,
  search rules,
  search (answers_readable, rules),
)

pub returns : goal.returns
returns c = record {
  prints = search (front_prints, rules);
  placed = search rules;
}
