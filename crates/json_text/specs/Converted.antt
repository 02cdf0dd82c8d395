-- Message to text: the whole answer.
use Rattle.std.specs.Prelude.{List, ℕ}
use Rattle.octets.specs.Lists.{Octets}
use Rattle.octets.specs.Answer.{Output, output, Result, delivered}
use Rattle.octets.specs.Answer as answer
use Rattle.octets.specs.Calls.{Call, Gives}
use Rattle.records.specs.Decode.{Decoded, accepted, refused, decode}
use Rattle.json_text.specs.Text.{text}

abbrev pub output_of : Decoded → Output
output_of (accepted m) = output (text m)
output_of (refused number place) = answer.refused number place

-- the profile text of the octets of a message, or the first of the refusals but 10
unfoldable pub converted : List ℕ → Output
converted s = output_of (decode s)

-- number, place, length and the whole buffer afterwards; 10 where the text is longer than the buffer
unfoldable pub to_text : List ℕ → List ℕ → Result
to_text s buffer = delivered 10 (converted s) buffer

-- a call of the converter: its message is octets, as every slice is, and its answer and buffer are those of `to_text`
pub record Converts (c : Call) : Type 0 where
  pub octets : Octets c.input
  pub promise : Gives (to_text c.input c.before) c.answer c.after
