-- One octet a turn, from two digits.
use Rattle.std.proofs.Common.{◌≡◌, ◌+◌, ◌*◌, length}
use Rattle.hex_lines.proofs.Steps.{Spelling}
use Rattle.hex_lines.proofs.put_octets.Given as goal

abbrev pub invariant-loop-rest : goal.invariant-loop-rest
invariant-loop-rest l =
    (2 * l.to + length l.rest ≡ length l.line) × Spelling l.line l.rest l.initial.out l.out l.to

abbrev pub decreases-loop-rest : goal.decreases-loop-rest
decreases-loop-rest l = length l.rest
