-- `print_message::put_section` meets its contract: the title and the array.
use borrow.Author.Rules.{rules}
use Rattle.print_message.specs.Arrays.{section_readable, section_prints}
use Rattle.print_message.proofs.put_section.Goals as goal

pub put_array-requires : goal.put_array-requires
put_array-requires c = (search rules, search rules, search rules, search rules, search (section_readable, rules))

pub returns : goal.returns
returns c = record {
  prints = search (section_prints, rules);
  placed = search rules;
}
