-- The line was written whole or in part, whatever `print_line` answers.
use Rattle.streams.proofs.Lines.{whole_or_part}
use Rattle.streams.proofs.tell_line.Goals as goal

pub returns : goal.returns
returns g c = whole_or_part _ _ _ _ c.print_line.ensures.all c.print_line.ensures.some
