-- A line of digits has its octets written.
use Rattle.hex_lines.proofs.Steps.{spelled_some, spelled_within}
use Rattle.hex_lines.proofs.unhex.Goals as goal

pub returns-then-is_hex-clause-unhexed : goal.returns-then-is_hex-clause-unhexed
returns-then-is_hex-clause-unhexed c = spelled_some c.requires c.put_octets.ensures

pub returns-then-is_hex-clause-octets_within : goal.returns-then-is_hex-clause-octets_within
returns-then-is_hex-clause-octets_within c = spelled_within c.requires c.put_octets.ensures
