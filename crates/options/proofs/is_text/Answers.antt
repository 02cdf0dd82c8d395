-- `options::is_text` meets its contract: each octet is tested.
use Rattle.std.proofs.Common.{◌∙◌, ap, rules, tests}
use Rattle.std.proofs.lemmas.Iterator.Consumers.{YieldsList-from_first}
use Rattle.std.proofs.lemmas.Iterator.Search.{all_from_yields_List}
use Rattle.hex_or_octets.proofs.Every.{every}
use Rattle.spelling.specs.Spelling.{printable?}
use Rattle.options.proofs.is_text.Goals as goal

pub returns : goal.returns
unfolding printable?
returns g c =
    all_from_yields_List printable? _ _ _ c.all.ensures.ran
    (YieldsList-from_first (λ x. x) (λ s. g.O.Octets.octets s.rest) (g.O.Octets.octets c.args.text) (ap g.O.Octets.octets c.iter.ensures))
    (λ x b q k. search (rules, tests)) ∙ every printable? (g.O.Octets.octets c.args.text)
