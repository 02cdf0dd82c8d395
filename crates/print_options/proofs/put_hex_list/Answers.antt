-- `print_options::put_hex_list` meets its contract: 8 octets, and 16 to 40.
use borrow.Author.Rules.{rules}
use Rattle.octets.specs.Writes.{writes_as, writes_then}
use Rattle.print_options.specs.Writing.{list_sizes, list_one, list_two}
use Rattle.print_options.proofs.put_hex_list.Goals as goal
use Rattle.print_options.proofs.put_hex_list.Goals.{then-not-is_empty, else-not-is_empty}

pub split_at-requires : goal.split_at-requires
split_at-requires c = search (list_sizes, rules)

pub returns-clause-wrote : goal.returns-clause-wrote
returns-clause-wrote c =
    let first = rw c.split_at.ensures.front at c.put_hex_text.ensures.wrote in
    elim c.if-not-is_empty.branch [
      | then-not-is_empty w ↦
          let second = rw c.split_at.ensures.back at w.put_hex_text-then-not-is_empty.ensures.wrote in
          writes_as (list_two c.args.value.now (search rules) (search rules))
          (writes_then first (writes_then second (rw w.w-is at c.put.ensures)))
      | else-not-is_empty w ↦
          writes_as (list_one c.args.value.now (search rules)) (writes_then first (rw w.w-is at c.put.ensures))
    ]
