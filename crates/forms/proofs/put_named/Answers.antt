-- `forms::put_named` meets its contract: three texts, one after another.
use Rattle.octets.specs.Overlay.{then}
use Rattle.forms.proofs.put_named.Goals as goal

pub returns-clause-wrote : goal.returns-clause-wrote
returns-clause-wrote c =
    then (then (rw c.form.ensures.value at c.put_all-typed.ensures) c.put_be16-classed.ensures) c.put_be16.ensures
