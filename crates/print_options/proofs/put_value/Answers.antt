-- `print_options::put_value` meets its contract: a way for each syntax.
use borrow.Author.Rules.{rules}
use Rattle.octets.specs.Writes.{writes_as}
use Rattle.options.specs.Options.{value_text, shape}
use Rattle.print_options.specs.Writing.{shaped_text, word_two, word_is, words_is}
use Rattle.print_options.proofs.put_value.Goals as goal

pub be16_at-requires : goal.be16_at-requires
be16_at-requires c = search (word_two, rules)

pub returns-in-OctetList-clause-wrote : goal.returns-in-OctetList-clause-wrote
unfolding shape value_text shaped_text
returns-in-OctetList-clause-wrote c = rw c.in-OctetList.is c.put_list.ensures.wrote

pub returns-in-Word-clause-wrote : goal.returns-in-Word-clause-wrote
returns-in-Word-clause-wrote c =
    let value = rw c.be16_at.ensures.value at c.put_decimal.ensures.wrote in
    rw c.in-Word.is (writes_as (word_is c.args.value.now (search rules)) value)

pub returns-in-WordList-clause-wrote : goal.returns-in-WordList-clause-wrote
returns-in-WordList-clause-wrote c =
    rw c.in-WordList.is (writes_as (words_is c.args.value.now (search rules)) c.put_list-in-WordList.ensures.wrote)
