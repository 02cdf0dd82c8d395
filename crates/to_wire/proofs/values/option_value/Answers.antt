use Rattle.to_wire.specs.Values.{octet_list_value, word_list_value, word_value}
use Rattle.to_wire.proofs.values.option_value.Goals as goal

pub returns-in-Some-OctetList : goal.returns-in-Some-OctetList
returns-in-Some-OctetList c =
    let x = c.in-Some-OctetList in
    octet_list_value c.args.code (rw x.field-0-is at x.ensures) c.list.ensures

pub returns-in-Some-Word : goal.returns-in-Some-Word
returns-in-Some-Word c =
    let x = c.in-Some-Word in
    word_value c.args.code (rw x.field-0-is at x.ensures) c.numeral.ensures

pub returns-in-Some-WordList : goal.returns-in-Some-WordList
returns-in-Some-WordList c =
    let x = c.in-Some-WordList in
    word_list_value c.args.code (rw x.field-0-is at x.ensures) c.list-in-Some-WordList.ensures
