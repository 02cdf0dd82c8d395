-- The place of a refusal is at most the input's length, over the calls of both conversions.
use mathlib.Core.Path.{sym, subst}
use mathlib.Core.Bool.{Bool, true, false, cond}
use mathlib.Core.Option.{Option, none, some}
use mathlib.Core.List.{List}
use Prim.Native.Nat.{ℕ, ◌≤◌}
use native.Mathlib.Omega.{arith}
use lib.Dec.{leb}
use lib.ListN.{length}
use Rattle.octets.specs.Answer.{Output, output, Answer, success, refusal, Result, overwritten, delivered}
use Rattle.octets.specs.Answer as answer
use Rattle.octets.specs.Parsed.{Parsed, parsed, failed}
use Rattle.octets.specs.Calls.{Gives}
use Rattle.records.specs.Message.{form}
use Rattle.records.specs.Decode.{Decoded, accepted, refused, decode}
use Rattle.records.proofs.Places.{PlacedIn, decode_placed}
use Rattle.json_text.specs.View.{View}
use Rattle.json_text.specs.View as view
use Rattle.json_text.specs.Limits.{within?}
use Rattle.json_text.specs.Document.{Document}
use Rattle.json_text.specs.Converted.{output_of, converted, to_text}
use Rattle.strict.specs.Meaning.{meaning}
use Rattle.strict.specs.Parser.{parse}
use Rattle.strict.specs.Reading.{of_meaning, of_parsed, reading, to_wire}

-- the place of an output that is a refusal
abbrev At : ℕ → Output → Type 0
At size (output l) = Unit {0}
At size (answer.refused k p) = p ≤ size

converted_at : (s : List ℕ) → At (length s) (converted s)
unfolding converted
converted_at s = go (decode s) (decode_placed s)
  where
    go : (d : Decoded) → PlacedIn (length s) d → At (length s) (output_of d)
    go (accepted m) h = tt
    go (refused k p) h = h

reading_at : (t : List ℕ) → At (length t) (reading t)
unfolding reading
reading_at t = read (parse t)
  where
    size : (b : Bool) (l : List ℕ) → At (length t) (cond b (output l) (answer.refused 22 0))
    size true l = tt
    size false l = omega arith

    mean : (o : Option View) → At (length t) (of_meaning o)
    mean none = omega arith
    mean (some v) = size (within? v) (form (view.message_of v))

    read : (o : Parsed Document) → At (length t) (of_parsed t o)
    read (parsed d r) = mean (meaning d)
    read (failed w) = omega arith

abbrev PlacedAt : ℕ → Answer → Type 0
PlacedAt size (success n) = Unit {0}
PlacedAt size (refusal k p) = p ≤ size

delivered_at : (no_room size : ℕ) (o : Output) (b : List ℕ) → At size o → PlacedAt size (delivered no_room o b).answer
unfolding delivered
delivered_at no_room size (output l) b h = go (leb (length l) (length b))
  where
    left : Bool → Result
    left t = cond t (record { answer = success (length l); buffer = overwritten l b })
        (record { answer = refusal no_room 0; buffer = b })

    go : (t : Bool) → PlacedAt size (left t).answer
    go true = tt
    go false = omega arith
delivered_at no_room size (answer.refused k p) b h = h

given_at : (no_room size : ℕ) (o : Output) (b : List ℕ) {b' : List ℕ} {k p : ℕ} → At size o
    → Gives (delivered no_room o b) (refusal k p) b' → p ≤ size
given_at no_room size o b h g = subst (PlacedAt size) (sym g.answers) (delivered_at no_room size o b h)

pub message_place : (s b : List ℕ) {b' : List ℕ} {k p : ℕ} → Gives (to_text s b) (refusal k p) b' → p ≤ length s
unfolding to_text
message_place s b = given_at 10 (length s) (converted s) b (converted_at s)

pub text_place : (t b : List ℕ) {b' : List ℕ} {k p : ℕ} → Gives (to_wire t b) (refusal k p) b' → p ≤ length t
unfolding to_wire
text_place t b = given_at 23 (length t) (reading t) b (reading_at t)
