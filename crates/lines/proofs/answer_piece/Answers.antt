-- From line to line.
use Rattle.std.proofs.Common.{rules, ◌≡◌, ◌-◌, ◌<◌, ◌≤◌, ◌⊎◌, length, drop, arith, inl, inr}
use Rattle.lines.specs.Programs.{answer_room}
use Rattle.lines.specs.Pieces.{line_length}
use Rattle.lines.proofs.Taking.{taking_start, rest-is, line_end-is, taking_line, taking_end}
use Rattle.lines.proofs.answer_piece.Goals as goal
use Rattle.lines.proofs.answer_piece.Goals.{then-end-rest-via-then-end-rest, then-end-rest-via-else-end-rest+then-out-size-lt-ANSWER_ROOM}

pub loop-message-init : goal.loop-message-init
loop-message-init g c = (omega arith, omega arith, search rules, taking_start _ _ _ _)

pub returns-then-end-rest-clause-answers : goal.returns-then-end-rest-clause-answers
returns-then-end-rest-clause-answers g c =
    let rest = drop c.loop-message.taken c.args.input.now in
    let whole = rest-is c.loop-message.taken c.args.input.now in
    let e : c.unwrap_or-end.result ≡ line_length rest =
    line_end-is rest (rw (c.newline.ensures, whole) at c.unwrap_or-end.ensures) in
    let room = length c.loop-message.out - c.loop-message.size in
    let waits : (length rest ≤ c.unwrap_or-end.result) ⊎ (room < answer_room) =
    elim c.then-end-rest.branch [
      | then-end-rest-via-then-end-rest w ↦
          let q : c.unwrap_or-end.result ≡ length rest = rw whole at w.if-end-rest.true in inl (omega arith)
      | then-end-rest-via-else-end-rest+then-out-size-lt-ANSWER_ROOM w ↦ inr w.if-out-size-lt-ANSWER_ROOM.true
    ] in
    taking_end _ _ _ _ c.loop-message.invariant.3 e waits (rw whole at c.add.ensures)

pub loop-message-preserved : goal.loop-message-preserved
loop-message-preserved g c =
    let rest = drop c.loop-message.taken c.args.input.now in
    let whole = rest-is c.loop-message.taken c.args.input.now in
    let e : c.unwrap_or-end.result ≡ line_length rest =
    line_end-is rest (rw (c.newline.ensures, whole) at c.unwrap_or-end.ensures) in
    let inside : c.unwrap_or-end.result < length rest = search rules in (
      search rules,
      search rules,
      search rules,
      rw c.answer_rest-size.ensures.line_after
          (taking_line _ _ _ _ c.loop-message.invariant.3 e inside c.if-out-size-lt-ANSWER_ROOM.false
          c.answer_rest-size.ensures.upper_bound (rw whole at c.answer_rest-size.ensures.wrote)),
    )
