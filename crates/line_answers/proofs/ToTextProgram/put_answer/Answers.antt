-- One way for each kind of line.
use Rattle.std.proofs.Common.{rules, ◌≤◌, length, take, arith, length-take-le}
use Rattle.line_answers.proofs.Answering.{text_wrote, text-within, refused_answer, place_below, read_answer}
use Rattle.line_answers.proofs.ToTextProgram.put_answer.Goals as goal

pub slice_bounds-convert-end-3 : goal.slice_bounds-convert-end-3
slice_bounds-convert-end-3 c =
    omega (arith, c.requires.1, length-take-le 65536 c.args.text.now (omega (arith, c.requires.1)))

pub refuse-requires-in-Err : goal.refuse-requires-in-Err
refuse-requires-in-Err c =
    let few : length (take c.in-Some.n c.unhex.new.out) ≤ 4096 = search rules in
    omega (arith, place_below _ _ c.requires.1 c.in-Err.ensures.promise few)

pub returns-in-Ok-clause-wrote : goal.returns-in-Ok-clause-wrote
returns-in-Ok-clause-wrote c =
    read_answer _ c.in-Some.ensures.unhexed (text_wrote _ _ c.requires.1 c.in-Ok.ensures.promise)

pub returns-in-Ok-clause-upper_bound : goal.returns-in-Ok-clause-upper_bound
returns-in-Ok-clause-upper_bound c = text-within _ _ c.requires.1 c.in-Ok.ensures.promise

pub returns-in-Err-clause-wrote : goal.returns-in-Err-clause-wrote
returns-in-Err-clause-wrote c =
    read_answer _ c.in-Some.ensures.unhexed
    (refused_answer _ _ c.requires.1 c.in-Err.ensures.promise (rw c.number.ensures at c.refuse-in-Err.ensures.wrote))
