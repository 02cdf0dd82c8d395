-- How much of a line is kept, and the room that an answer needs.
use Rattle.std.specs.Prelude.{ℕ}

-- how much of a line is kept: one octet more than the longest line, so that a line that is too long shows
abbrev pub most_kept : ℕ
most_kept = 65537

-- room for the longest answer, and 10 after it
abbrev pub answer_room : ℕ
answer_room = 65537
