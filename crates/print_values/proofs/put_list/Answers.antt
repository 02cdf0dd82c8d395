use borrow.Author.Rules.{rules}
use mathlib.Core.Path.{◌≡◌, ap}
use mathlib.Core.List.{[], ◌∷◌}
use Prim.Native.Nat.{ℕ}
use native.Mathlib.Omega.{arith}
use lib.ListN.{length, length-append}
use Rattle.std.specs.Slice.Iter.{chunks_exact_rest}
use Rattle.octets.specs.Lists.{listed}
use Rattle.octets.specs.Decimal.{decimal}
use Rattle.octets.specs.Writes.{left_start, left_as, left_step, left_end}
use Rattle.print_values.specs.Entries.{numbers, number_at, entries, numbers_more, no_number}
use Rattle.print_values.proofs.put_list.Goals as goal
use Rattle.print_values.proofs.put_list.Goals.{in-Some+in-None, in_default}

pub loop-entry-init : goal.loop-entry-init
loop-entry-init g c =
    let x = c.in-Some.first.now in
    let e : numbers g.row.SIZE c.args.value.now ≡ number_at (length x) x 0
    ∷ numbers g.row.SIZE (chunks_exact_rest c.into_iter-entry-iterator.result) = search (numbers_more, rules) in
    record {
      size = search rules;
      left =
          left_step (left_step (left_as (ap (listed decimal) e) (left_start _ _)) c.put.ensures)
          c.put_number.ensures.wrote;
      room = grind (arith, length-append {A = ℕ});
    }

pub loop-entry-preserved : goal.loop-entry-preserved
loop-entry-preserved g c =
    let x = c.in-Some-entry.entry.now in
    let e : numbers g.row.SIZE (chunks_exact_rest c.loop-entry.entry-iterator) ≡ number_at (length x) x 0
    ∷ numbers g.row.SIZE (chunks_exact_rest c.next-in-loop-entry.new.self) = search (numbers_more, rules) in
    record {
      size = search rules;
      left =
          left_step (left_step (left_as (ap entries e) c.loop-entry.invariant.left) c.put-in-loop-entry.ensures)
          c.put_number-in-loop-entry.ensures.wrote;
      room = grind (arith, length-append {A = ℕ});
    }

pub returns-clause-wrote : goal.returns-clause-wrote
returns-clause-wrote g c = elim c.match-next.branch [
  | in-Some+in-None w ↦
      let e : numbers g.row.SIZE (chunks_exact_rest w.loop-entry.entry-iterator) ≡ [] = search (no_number, rules) in
      left_end (left_as (ap entries e) w.loop-entry.invariant.left) (rw w.w-is at c.put-2.ensures)
  | in_default w ↦
      let e : numbers g.row.SIZE c.args.value.now ≡ [] = search (no_number, rules) in
      left_end (left_step (left_as (ap (listed decimal) e) (left_start _ _)) c.put.ensures)
      (rw w.w-is at c.put-2.ensures)
]
