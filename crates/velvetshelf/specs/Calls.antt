-- Answers as C reads them: a number and a value. 0 is success alone, so the number and the value are the whole answer.
use Rattle.std.specs.Prelude.{◌≡◌, refl, Bool, true, false, cond, List, ℕ, zero, suc, ◌<◌, leb, ltb, length, Ok, Err}
use Rattle.std.specs.Prelude.{Result as Answered}
use Rattle.std.proofs.Common.{sym, subst, arith}
use Rattle.std.proofs.Math.Option.{Option, none, some}
use Rattle.octets.specs.Answer.{Output, output, Answer, success, refusal, Result, overwritten, delivered}
use Rattle.octets.specs.Answer as answer
use Rattle.octets.specs.Parsed.{Parsed, parsed, failed}
use Rattle.octets.specs.Calls.{number_of, answer_of, Gives}
use Rattle.octets.specs.declared.Refusal.{Refusal}
use Rattle.names.specs.Name.{Kind, cut, reserved, target, long, short, surplus, refusal_number}
use Rattle.records.specs.Message.{Message, form}
use Rattle.records.specs.Read.{Reached, reached, stopped}
use Rattle.records.specs.Decode.{Decoded, accepted, refused, sections_of, message_read, after_reading, decode}
use Rattle.json_text.specs.View.{View}
use Rattle.json_text.specs.View as view
use Rattle.json_text.specs.Limits.{within?}
use Rattle.json_text.specs.Document.{Document}
use Rattle.json_text.specs.Converted.{output_of, converted, to_text, Converts}
use Rattle.strict.specs.Meaning.{meaning}
use Rattle.strict.specs.Parser.{parse}
use Rattle.strict.specs.Reading.{of_meaning, of_parsed, reading, to_wire, Reads}

-- the answer that C reads off: 0 and the length, or the refusal's number and its place
abbrev pub answer_in : ℕ → ℕ → Answer
answer_in zero value = success value
answer_in (suc n) value = refusal (suc n) value

-- the number and the value of the code's answer
abbrev pub c_number : Answered ℕ Refusal → ℕ
c_number (Ok n) = 0
c_number (Err r) = number_of r.rule

abbrev pub c_value : Answered ℕ Refusal → ℕ
c_value (Ok n) = n
c_value (Err r) = r.place

-- ---- no refusal has the number 0
abbrev Numbered : Answer → Type 0
Numbered (success n) = Unit {0}
Numbered (refusal k p) = 0 < k

abbrev NumberedIn : Decoded → Type 0
NumberedIn (accepted m) = Unit {0}
NumberedIn (refused k p) = 0 < k

abbrev NumberedOut : Output → Type 0
NumberedOut (output l) = Unit {0}
NumberedOut (answer.refused k p) = 0 < k

kind_number : (kind : Kind) → 0 < refusal_number kind
kind_number cut = omega arith
kind_number reserved = omega arith
kind_number target = omega arith
kind_number long = omega arith
kind_number short = omega arith
kind_number surplus = omega arith

either : (b : Bool) (d e : Decoded) → NumberedIn d → NumberedIn e → NumberedIn (cond b d e)
either true d e h k = h
either false d e h k = k

ended : (s : List ℕ) (m : Message) (w : Reached) → NumberedIn (after_reading s m w)
ended s m (reached at) =
    either (ltb at (length s)) (refused 8 at) _ (omega arith)
    (either (ltb 65535 (length (form m))) (refused 9 0) (accepted m) (omega arith) tt)
ended s m (stopped at fault) = kind_number fault.kind

decode-numbered : (s : List ℕ) → NumberedIn (decode s)
unfolding decode
decode-numbered s =
    either (ltb 65535 (length s)) (refused 2 0) _ (omega arith)
    (either (ltb (length s) 12) (refused 1 0) _ (omega arith)
    (ended s (message_read s) (sections_of s).additional.end))

converted-numbered : (s : List ℕ) → NumberedOut (converted s)
unfolding converted
converted-numbered s = go (decode s) (decode-numbered s)
  where
    go : (d : Decoded) → NumberedIn d → NumberedOut (output_of d)
    go (accepted m) h = tt
    go (refused k p) h = h

reading-numbered : (t : List ℕ) → NumberedOut (reading t)
unfolding reading
reading-numbered t = read (parse t)
  where
    size : (b : Bool) (l : List ℕ) → NumberedOut (cond b (output l) (answer.refused 22 0))
    size true l = tt
    size false l = omega arith

    mean : (o : Option View) → NumberedOut (of_meaning o)
    mean none = omega arith
    mean (some v) = size (within? v) (form (view.message_of v))

    read : (o : Parsed Document) → NumberedOut (of_parsed t o)
    read (parsed d r) = mean (meaning d)
    read (failed w) = omega arith

delivered-numbered : (no_room : ℕ) → 0 < no_room → (o : Output) (b : List ℕ) → NumberedOut o
    → Numbered (delivered no_room o b).answer
unfolding delivered
delivered-numbered no_room r (output l) b h = go (leb (length l) (length b))
  where
    left : Bool → Result
    left t = cond t (record { answer = success (length l); buffer = overwritten l b })
        (record { answer = refusal no_room 0; buffer = b })

    go : (t : Bool) → Numbered (left t).answer
    go true = tt
    go false = r
delivered-numbered no_room r (answer.refused k p) b h = h

-- ---- so the number and the value are the answer
refused_back : (k p : ℕ) → 0 < k → answer_in k p ≡ refusal k p
refused_back zero p h = absurd (omega arith)
refused_back (suc k) p h = refl

back : (o : Answered ℕ Refusal) → Numbered (answer_of o) → answer_in (c_number o) (c_value o) ≡ answer_of o
back (Ok n) h = refl
back (Err r) h = refused_back (number_of r.rule) r.place h

same : {left : Result} {after : List ℕ} {n v : ℕ} (o : Answered ℕ Refusal) → Numbered left.answer
    → Gives left (answer_of o) after → n ≡ c_number o → v ≡ c_value o → Gives left (answer_in n v) after
same {left} {after} o h g e f = rw (e, f, back o (subst Numbered (sym g.answers) h)) g

-- what the exported functions ensure, from what the conversions ensure
module _ (s b : List ℕ) {after : List ℕ} {n v : ℕ} (given : Answered ℕ Refusal) (e : n ≡ c_number given)
    (f : v ≡ c_value given) where
  pub c_converts : Converts (record { input = s; before = b; answer = answer_of given; after = after })
      → Converts (record { input = s; before = b; answer = answer_in n v; after = after })
  unfolding to_text
  c_converts c = record {
    octets = c.octets;
    promise = same given (delivered-numbered 10 (omega arith) (converted s) b (converted-numbered s))
        c.promise e f;
  }

  pub c_reads : Reads (record { input = s; before = b; answer = answer_of given; after = after })
      → Reads (record { input = s; before = b; answer = answer_in n v; after = after })
  unfolding to_wire
  c_reads g = same given (delivered-numbered 23 (omega arith) (reading s) b (reading-numbered s)) g e f
