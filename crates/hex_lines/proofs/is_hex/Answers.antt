-- Each octet of the line is tested.
use Rattle.std.proofs.Common.{◌∙◌, rules, tests}
use Rattle.std.proofs.lemmas.Iterator.{YieldsList-from_slice}
use Rattle.std.proofs.lemmas.Iterator.Search.{all_from_yields_List}
use Rattle.std.specs.Char.{is_ascii_hexdigit}
use Rattle.hex_lines.proofs.Steps.{digits_spell, odd_none}
use Rattle.hex_lines.proofs.is_hex.Goals as goal

pub returns-then-line-eq0 : goal.returns-then-line-eq0
returns-then-line-eq0 c =
    all_from_yields_List is_ascii_hexdigit _ _ _ c.all.ensures.ran
    (YieldsList-from_slice c.args.line.now c.iter.ensures.rest)
    (λ x b q k. search (rules, tests)) ∙ digits_spell c.args.line.now (search (rules, tests))

pub returns-else-line-eq0 : goal.returns-else-line-eq0
returns-else-line-eq0 c = search (rules, tests, odd_none)
