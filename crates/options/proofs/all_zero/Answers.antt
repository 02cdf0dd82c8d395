-- `options::all_zero` meets its contract: each octet is tested.
use Rattle.std.proofs.Common.{◌∙◌, ap, rules, tests}
use Rattle.std.proofs.lemmas.Iterator.Consumers.{YieldsList-from_first}
use Rattle.std.proofs.lemmas.Iterator.Search.{all_from_yields_List}
use Rattle.hex_or_octets.proofs.Every.{every}
use Rattle.options.specs.Options.{zero?}
use Rattle.options.proofs.all_zero.Goals as goal

pub returns : goal.returns
returns g c =
    all_from_yields_List zero? _ _ _ c.all.ensures.ran
    (YieldsList-from_first (λ x. x) (λ s. g.O.Octets.octets s.rest) (g.O.Octets.octets c.args.value) (ap g.O.Octets.octets c.iter.ensures))
    (λ x b q k. search (rules, tests)) ∙ every zero? (g.O.Octets.octets c.args.value)
