-- What is told of a call that failed.
use Rattle.std.specs.Prelude.{◌≡◌, ◌≢◌, ℕ, ℤ, List, ◌++◌, codes, unsigned_abs, Option, None, Some}
use Rattle.std.specs.IoError.{error_kind, raw_os_error}
use Rattle.std.specs.Io.KnownBytes.{Appends}
use Rattle.std.specs.declared.io.Error.{Error}
use Rattle.std.specs.declared.io.ErrorKind.TheVariants.{Interrupted}
use Rattle.streams.specs.Parts.{AppendsPart}
use Rattle.streams.specs.declared.Call.{Call}
use Rattle.streams.specs.declared.Call.TheVariants.{Read, Write, Close}
use Rattle.streams.specs.declared.Failure.{Failure}
use Rattle.octets.specs.Decimal.{decimal}

-- the word for a call
abbrev pub word_of : Call → List ℕ
word_of Read = codes "read"
word_of Write = codes "write"
word_of Close = codes "close"

-- this call failed, and not because a signal interrupted it
pub record FailedAt (call : Call) (failure : Failure) : Type 0 where
  pub call_is : failure.call ≡ call
  pub lasts : error_kind failure.error ≢ Interrupted

-- the system's number of an error, or 0 where it has none
abbrev pub number_of : Option ℤ → ℕ
number_of None = 0
number_of (Some code) = unsigned_abs code

-- the line: the program's name, the call, the error's number, and its reason in the system's words
abbrev pub failure_line : List ℕ → List ℕ → ℕ → List ℕ → List ℕ
failure_line name call number reason =
    name ++ codes ": " ++ call ++ codes " failed (errno " ++ decimal number ++ codes "): " ++ reason ++ codes "\n"

-- such a line, with some reason, is added to known octets
abbrev pub Tells : Option (List ℕ) → Option (List ℕ) → List ℕ → List ℕ → Error → Type 0
Tells old new name call error =
    (reason : List ℕ) × Appends old new (failure_line name call (number_of (raw_os_error error)) reason)

-- such a line is added, but not whole
abbrev pub TellsPart : Option (List ℕ) → Option (List ℕ) → List ℕ → List ℕ → Error → Type 0
TellsPart old new name call error =
    (reason : List ℕ) × AppendsPart old new (failure_line name call (number_of (raw_os_error error)) reason)
