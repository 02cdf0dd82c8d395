-- Text to message: the whole answer.
use Rattle.std.specs.Prelude.{cond, List, ℕ, ◌-◌, length}
use Rattle.std.proofs.Math.Option.{Option, none, some}
use Rattle.octets.specs.Parsed.{Parsed, parsed, failed}
use Rattle.octets.specs.Answer.{Output, output, refused, Result, delivered}
use Rattle.octets.specs.Calls.{Call, Gives}
use Rattle.records.specs.Message.{form}
use Rattle.json_text.specs.View.{View, message_of}
use Rattle.json_text.specs.Limits.{within?}
use Rattle.json_text.specs.Document.{Document}
use Rattle.strict.specs.Meaning.{meaning}
use Rattle.strict.specs.Parser.{parse}

-- the uncompressed form, or 22 for a size over its limit
abbrev pub of_view : View → Output
of_view v = cond (within? v) (output (form (message_of v))) (refused 22 0)

-- 21 where no message has this text
abbrev pub of_meaning : Option View → Output
of_meaning none = refused 21 0
of_meaning (some v) = of_view v

-- 20 where the text is not within the grammar, at the octet at which `parse` stopped: before it lies the longest
-- beginning of the text that is also one of some text in the grammar (`parse-stops`, `proofs/Longest.antt`)
abbrev pub of_parsed : List ℕ → Parsed Document → Output
of_parsed t (parsed d r) = of_meaning (meaning d)
of_parsed t (failed rest) = refused 20 (length t - length rest)

-- the octets of the message that a text says, or the first of the refusals 20 to 22
unfoldable pub reading : List ℕ → Output
reading t = of_parsed t (parse t)

-- number, place, length and the whole buffer afterwards; 23 where the message is longer than the buffer
unfoldable pub to_wire : List ℕ → List ℕ → Result
to_wire t buffer = delivered 23 (reading t) buffer

-- a call of the reader: its answer and buffer are those of `to_wire`
abbrev pub Reads : Call → Type 0
Reads c = Gives (to_wire c.input c.before) c.answer c.after
