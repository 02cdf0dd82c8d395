-- What is written of RDATA: the form of its pieces before the first fault, and what `put_rdata` does.
use Rattle.std.specs.Prelude.{◌≡◌, true, cond, List, [], ◌∷◌, ◌++◌, ℕ, ◌+◌, ◌*◌, ◌≤◌, ltb, Result, Ok, Err}
use Rattle.octets.specs.Writes.{Writes}
use Rattle.octets.specs.declared.writer.Writer.{Writer}
use Rattle.names.specs.Name.{name_form}
use Rattle.names.specs.Walk.{part, rdata, named, faulty, name_at}
use Rattle.names.specs.Answer.{fault_of}
use Rattle.names.specs.declared.Fault.{Fault as FaultRead}
use Rattle.records.specs.Layout.{Piece, fixed, name, Laid, laid, misfit, rdata_at}
use Rattle.records.specs.Parts.{layout_in}

-- ---- the form
-- the pieces before the first fault, as in `pieces`
unfoldable pub pieces_form : List Piece → List ℕ → ℕ → ℕ → ℕ → List ℕ
pieces_form [] s start end at = []
pieces_form (fixed n ∷ layout) s start end at =
    let later = part s at n ++ pieces_form layout s start end (at + n) in
    cond (ltb end (at + n)) [] later
pieces_form (name ∷ layout) s start end at =
    elim (name_at s (rdata start end) at) [
      | named labels next ↦ name_form labels ++ pieces_form layout s start end next
      | faulty fault ↦ []
    ]

-- RDATA of `size` octets at an offset, `rdata_form s type at size`: its pieces before the first fault
unfoldable pub rdata_form : List ℕ → ℕ → ℕ → ℕ → List ℕ
rdata_form s type at size = pieces_form (layout_in type size) s at (at + size) at

-- ---- what `put_rdata` does
-- the fault of RDATA that does not fit its layout
abbrev pub rdata_end_of : Laid → Result (Unit {0}) FaultRead
rdata_end_of (laid d) = Ok tt
rdata_end_of (misfit fault) = Err (fault_of fault)

-- the text of the form l is put where the writer w was, which is then w', and the answer r is by `read`
pub record PutsForm (text : List ℕ → List ℕ) (read : Laid) (l : List ℕ) (w w' : Writer)
    (r : Result (Unit {0}) FaultRead) : Type 0 where
  pub wrote : Writes w (text l) w'
  pub answer : r ≡ rdata_end_of read

-- the text of RDATA's form, up to its first fault, and the answer by RDATA: `PutsRdata text s type at size w w' r`
abbrev pub PutsRdata : (List ℕ → List ℕ) → List ℕ → ℕ → ℕ → ℕ → Writer → Writer → Result (Unit {0}) FaultRead → Type 0
PutsRdata text s type at size w w' r = PutsForm text (rdata_at true s type at size) (rdata_form s type at size) w w' r

-- the place after the form of RDATA of `size` octets
pub record Ends (width r to size : ℕ) : Type 0 where
  -- the form's octets
  pub long : ℕ
  pub place : r ≡ to + width * long
  pub for_each : long ≤ 255 * size
  pub more : long ≤ size + 530
  pub few : long ≤ 65535
