-- The status that a session ends the program with.
use Rattle.std.specs.Prelude.{ℕ, true, false, Result, Ok, Err}
use Rattle.lsp_session.specs.declared.ended.Ended.{Ended}
use Rattle.lsp_session.specs.declared.ended.Ended.TheVariants.{Exit, InputEnd, BadFrame}
use Rattle.program_start.specs.Status.{failure_status}
use Rattle.program_start.specs.declared.failure.Failure.{Failure}

-- 0 after `shutdown` and `exit`, 1 where the editor went without them, 3 at a bad frame
abbrev pub session_status : Result Ended Failure → ℕ
session_status (Ok (Exit true)) = 0
session_status (Ok (Exit false)) = 1
session_status (Ok InputEnd) = 1
session_status (Ok (BadFrame code)) = 3
session_status (Err failure) = failure_status failure
