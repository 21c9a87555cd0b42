-- What the private steps of a session over a stream promise each other.
use Rattle.std.specs.Prelude.{◌≡◌, ℕ, ◌+◌, ◌≤◌, List, [], ◌++◌, length, ⊤, false, Option, Some, None, option_map, Result, Ok, Err, IfSome, IfErr, OnOk}
use Rattle.std.specs.Io.KnownBytes.{Appends}
use Rattle.lsp_frame.specs.Counts.{NoneFell, NoError, HasFailed}
use Rattle.lsp_frame.specs.Fault.{code_of}
use Rattle.lsp_frame.specs.Stream.{frames}
use Rattle.lsp_frame.specs.declared.counts.Counts.{Counts}
use Rattle.lsp_frame.specs.declared.fault.FrameFault.{FrameFault}
use Rattle.lsp_frame.specs.declared.fault.FrameFault.TheVariants as frame
use Rattle.lsp_frame.specs.declared.reader.LastAnswer.{LastAnswer}
use Rattle.work_config.specs.Configuration.{Configuration}
use Rattle.work_config.specs.Fault.{ComesWhileServing, NoErrorUnless}
use Rattle.work_config.specs.Sending.{SendsPrefix}
use Rattle.work_config.specs.declared.fault.ServeFault.{ServeFault}
use Rattle.work_config.specs.declared.fault.ServeFault.TheVariants as fault
use Rattle.lsp_core.specs.Core.{CoreState, ExhaustsStamps}
use Rattle.lsp_core.specs.Session.{start, session}
use Rattle.lsp_core.specs.Steps.{Knows}
use Rattle.lsp_core.specs.Session.{exit_of, is_exited}
use Rattle.lsp_session.specs.Stream.{frames_of, output, ended, taken_from, behind_frames, behind_exit, IsExit, HasFrameCode, LeavesReader, Answered}
use Rattle.lsp_session.specs.declared.ended.Ended.{Ended}
use Rattle.lsp_session.specs.declared.ended.Ended.TheVariants as how
use Rattle.lsp_core.specs.declared.phase.Phase.{Phase}

-- ---- the devices

-- what calls to a device may do to its counts: an error is the last of them, nothing ends well after it, and it is reported as this fault
pub record Calls {A : Type 0} (own : ServeFault) (old new : Counts) (result : Result A ServeFault) : Type 0 where
  pub counts : NoneFell old new
  pub calm : OnOk result (NoError old new)
  pub reported : IfErr result (NoErrorUnless own old new)
  pub once : new.errors ≤ old.errors + 1

-- a device's fault comes only where the device failed: those of a source between the first two counts, those of a sink
-- between the others
abbrev pub IsCaused : Counts → Counts → Counts → Counts → ServeFault → Type 0
IsCaused a b c d fault.Read = HasFailed a b
IsCaused a b c d fault.Write = HasFailed c d
IsCaused a b c d _ = ⊤

-- ---- the stream so far

-- of the stream `bytes`, `rest` is left, and the replies to the messages before it went out
pub record Serves (config : Configuration) (bytes rest : List ℕ) (core : CoreState) (v w : Option (List ℕ)) : Type 0 where
  pub bodies : List (List ℕ)
  pub knows : Knows config core bodies
  pub front : List ℕ
  pub joined : bytes ≡ front ++ rest
  pub whatever : (behind : List ℕ) → (frames (front ++ behind)).bodies ≡ bodies ++ (frames behind).bodies
  pub same_end : (frames rest).end ≡ (frames bytes).end
  pub wrote : Appends v w (frames_of (session config bodies).replies)
  pub behind : rest ≡ behind_frames (length bodies) bytes
  pub taken : (later : List (List ℕ)) → taken_from (start config) (bodies ++ later) ≡ length bodies + taken_from core.state later

-- the same where the source tells its bytes
abbrev pub Serving : Configuration → Option (List ℕ) → Option (List ℕ) → CoreState → Option (List ℕ) → Option (List ℕ) → Type 0
Serving config None left core v w = ⊤
Serving config (Some bytes) None core v w = ⊥
Serving config (Some bytes) (Some rest) core v w = Serves config bytes rest core v w

-- ---- how it ends

-- how a session has ended, if by an exit
abbrev pub exit_in : Phase → Option Ended
exit_in phase = option_map how.Exit (exit_of phase)

-- how a session ends where there is no further frame for this reason
abbrev pub end_by : FrameFault → Result (Option Ended) ServeFault
end_by frame.Read = Err fault.Read
end_by frame.Memory = Err fault.Memory
end_by f = Ok (Some (how.BadFrame (code_of f)))

-- all of the output went out, the session ended so, and behind an exit the bytes behind it are left
pub record Ends (config : Configuration) (bytes : List ℕ) (left v w : Option (List ℕ)) (end : Ended) : Type 0 where
  pub whole : Appends v w (output config bytes)
  pub ended : end ≡ ended config bytes
  pub behind : IsExit end → left ≡ Some (behind_exit config bytes)

-- the session on the bytes `a` ended so, where the source tells them
pub record Finishes (config : Configuration) (a left v w : Option (List ℕ)) (answer : Option LastAnswer) (end : Ended) : Type 0 where
  pub ends : IfSome a (λ bytes. Ends config bytes left v w end)
  pub code : HasFrameCode end
  pub leaves : LeavesReader answer end

-- it stopped by a fault
pub record Fails (config : Configuration) (a left v w : Option (List ℕ)) (reason : ServeFault) : Type 0 where
  pub prefix : IfSome a (λ bytes. SendsPrefix v w (output config bytes))
  pub loses : IfSome a (λ bytes. (last : List ℕ) × Answered config bytes last left v w)
  pub answered : reason ≡ fault.Read → IfSome a (λ bytes. Answered config bytes [] left v w)
  pub stamps : reason ≡ fault.Exhausted → IfSome a (λ bytes. ExhaustsStamps 0 config (length (frames bytes).bodies))
  pub comes : ComesWhileServing reason

-- it ended well, or by a fault
abbrev pub Served : Configuration → Option (List ℕ) → Option (List ℕ) → Option (List ℕ) → Option (List ℕ) → Option LastAnswer → Result Ended ServeFault → Type 0
Served config a left v w last (Ok end) = Finishes config a left v w last end
Served config a left v w last (Err reason) = Fails config a left v w reason

-- what one step came to: the session goes on, or it ended
abbrev pub Comes : Configuration → Option (List ℕ) → Option (List ℕ) → CoreState → Option (List ℕ) → Option (List ℕ) → Option LastAnswer → Result (Option Ended) ServeFault → Type 0
Comes config a left core v w last (Ok None) = Serving config a left core v w × (is_exited core.state.phase ≡ false) × (last ≡ None)
Comes config a left core v w last (Ok (Some end)) = Finishes config a left v w last end
Comes config a left core v w last (Err reason) = Fails config a left v w reason
