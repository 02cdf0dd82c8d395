use Rattle.parse_tokens.specs.Fields.{number_in}
use Rattle.parse_tokens.proofs.put_number.Goals as goal

pub returns : goal.returns
returns g c = number_in g.row.N c.requires.few c.if-value.false c.to_be_bytes.ensures c.emit.ensures
