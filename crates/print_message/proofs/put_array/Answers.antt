use borrow.Author.Rules.{rules}
use lib.Dec.{eqb}
use Rattle.octets.specs.Writes.{Writes}
use Rattle.print_message.specs.Arrays.{comma, comma_first, comma-later, left-all, left_none, left_readable, left_less}
use Rattle.print_message.proofs.put_array.Goals as goal
use Rattle.print_message.proofs.put_array.Goals.{then-turn-gt0, else-turn-gt0}

pub loop-turn-init : goal.loop-turn-init
loop-turn-init c = record {
  later = search rules;
  within = search rules;
  room = search rules;
  left = left-all _ _ _ _ (search rules);
}

pub put_element-next-requires : goal.put_element-next-requires
put_element-next-requires c = (
  search rules,
  search rules,
  elim c.if-turn-gt0.branch [ then-turn-gt0 w ↦ search rules | else-turn-gt0 w ↦ search rules ],
  left_readable _ _ _ _ _ _ c.loop-turn.invariant.left c.loop-turn-test.true,
)

pub loop-turn-preserved : goal.loop-turn-preserved
loop-turn-preserved c =
    let before : Writes c.loop-turn.w (comma (eqb c.loop-turn.turn 0)) c.if-turn-gt0.w =
    elim c.if-turn-gt0.branch [
      | then-turn-gt0 w ↦ rw w.w-is (comma-later w.if-turn-gt0.true w.put-then-turn-gt0.ensures)
      | else-turn-gt0 w ↦ rw w.w-is (comma_first w.if-turn-gt0.false)
    ] in
    record {
      later = search rules;
      within = search rules;
      room = elim c.if-turn-gt0.branch [ then-turn-gt0 w ↦ search rules | else-turn-gt0 w ↦ search rules ];
      left =
          left_less _ _ _ _ _ _ c.loop-turn.invariant.left c.loop-turn-test.true before
          c.put_element-next.ensures.prints;
    }

pub returns-clause-prints : goal.returns-clause-prints
returns-clause-prints c =
    left_none _ _ _ _ _ _ c.loop-turn.invariant.left c.loop-turn-test.false c.put.ensures c.put-2.ensures
