-- How a run that failed ends.
use Rattle.std.specs.Prelude.{◌≡◌}
use Rattle.std.specs.IoError.{error_kind}
use Rattle.std.specs.declared.io.ErrorKind.TheVariants.{BrokenPipe}
use Rattle.streams.specs.declared.Call.TheVariants.{Write}
use Rattle.streams.specs.declared.Failure.{Failure}

-- the reader of the output went away
abbrev pub IsReaderGone : Failure → Type 0
IsReaderGone failure = (failure.call ≡ Write) × (error_kind failure.error ≡ BrokenPipe)
