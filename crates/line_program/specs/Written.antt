-- What a run has written when a call failed.
use Rattle.std.specs.Prelude.{ℕ, List, [], Option}
use Rattle.std.specs.Io.KnownBytes.{Appends, Consumes, IsAtEnd}
use Rattle.streams.specs.Parts.{AppendsPart}
use Rattle.lines.specs.Lines.{program_output}
use Rattle.lines.specs.Reading.{printed_over}
use Rattle.streams.specs.declared.Call.{Call}
use Rattle.streams.specs.declared.Call.TheVariants.{Read, Write, Close}
use Rattle.streams.specs.declared.Failure.{Failure}

-- After a read that failed the answers to the lines that had ended are written; after a write, a part of the output;
-- and before the close, all of it.
abbrev pub WrittenAt : Option (List ℕ) → Option (List ℕ) → (List ℕ → List ℕ) → List ℕ → Call → Type 0
WrittenAt old new answer input Read = Appends old new (printed_over answer [] input)
WrittenAt old new answer input Write = AppendsPart old new (program_output answer input)
WrittenAt old new answer input Close = Appends old new (program_output answer input)

-- A run to the end of the input: what it took of it, `rest` being left of `input`, is answered.
abbrev pub WritesAll : Option (List ℕ) → Option (List ℕ) → Option (List ℕ) → Option (List ℕ) → (List ℕ → List ℕ) → Type 0
WritesAll input rest old new answer =
    (taken : List ℕ) × Consumes input rest taken × IsAtEnd rest × Appends old new (program_output answer taken)

-- a run to a failure
abbrev pub WritesPart : Option (List ℕ) → Option (List ℕ) → Option (List ℕ) → Option (List ℕ) → (List ℕ → List ℕ)
    → Failure → Type 0
WritesPart input rest old new answer failure =
    (taken : List ℕ) × Consumes input rest taken × WrittenAt old new answer taken failure.call
