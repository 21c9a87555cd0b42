-- The statuses that the program ends with.
use Rattle.std.specs.Prelude.{◌≡◌, ◌⊎◌, ℕ, Bool, true, false, Result, Ok, Err}
use Rattle.clap.specs.Words.{kind_of}
use Rattle.clap.specs.declared.error.Error.{Error}
use Rattle.clap.specs.declared.error.kind.ErrorKind.TheVariants.{DisplayHelp, DisplayVersion}
use Rattle.program_start.specs.declared.failure.Failure.{Failure}
use Rattle.program_start.specs.declared.failure.Failure.TheVariants.{Folder, File, Fault}

-- 2 where the command line names a file that can't be checked, and 3 where a folder can't be read or something else failed
abbrev pub failure_status : Failure → ℕ
failure_status (Folder fault) = 3
failure_status (File name fault) = 2
failure_status (Fault code) = 3

-- of a check that ended: 1 where an error was found, and else 0
abbrev pub check_status : Result Bool Failure → ℕ
check_status (Ok true) = 1
check_status (Ok false) = 0
check_status (Err failure) = failure_status failure

-- what a parser of the command line says is what was asked for, and no mistake
abbrev pub IsHelp : Error → Type 0
IsHelp error = (kind_of error ≡ DisplayHelp) ⊎ (kind_of error ≡ DisplayVersion)
