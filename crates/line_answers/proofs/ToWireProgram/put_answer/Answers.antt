-- By the reader's answer.
use Rattle.std.proofs.Common.{arith}
use Rattle.line_answers.proofs.Places.{text_place}
use Rattle.line_answers.proofs.Wire.{message_within, message_answer, refused_answer}
use Rattle.line_answers.proofs.ToWireProgram.put_answer.Goals as goal

pub shared_ref_as_front-put_hex : goal.shared_ref_as_front-put_hex
shared_ref_as_front-put_hex c = message_within _ _ c.told-message c.in-Ok.ensures

pub refuse-requires : goal.refuse-requires
refuse-requires c = omega (arith, c.requires.0, text_place _ _ c.in-Err.ensures)

pub returns-in-Ok-clause-wrote : goal.returns-in-Ok-clause-wrote
returns-in-Ok-clause-wrote c = message_answer _ _ c.told-message c.in-Ok.ensures c.put_hex.ensures.wrote

pub returns-in-Err-clause-wrote : goal.returns-in-Err-clause-wrote
returns-in-Err-clause-wrote c =
    refused_answer _ _ c.told-message c.in-Err.ensures (rw c.number.ensures at c.refuse.ensures.wrote)
