-- The session over a stream of frames: what the server writes, and how it ends.
use Rattle.std.specs.Prelude.{◌≡◌, ℕ, zero, suc, ◌≤◌, List, [], ◌∷◌, ◌++◌, length, take, ⊤, true, if◌then◌else◌, Option, Some, None}
use Rattle.std.specs.List.{flat_map}
use Rattle.std.specs.Option.{option_to_list}
use Rattle.std.specs.Io.KnownBytes.{Appends}
use Rattle.lsp_frame.specs.Fault.{code_of}
use Rattle.lsp_frame.specs.Stream.{StreamEnd, InputEnd, BadFrame, FirstFrame, Whole, NoFrame, first_frame, frames}
use Rattle.lsp_frame.specs.Writing.{frame_of}
use Rattle.lsp_frame.specs.declared.fault.FrameFault.{FrameFault}
use Rattle.lsp_frame.specs.declared.reader.LastAnswer.{LastAnswer}
use Rattle.lsp_frame.specs.declared.reader.LastAnswer.TheVariants.{AtEnd, Failed}
use Rattle.lsp_rpc.specs.Message.{message_of}
use Rattle.work_config.specs.Configuration.{Configuration}
use Rattle.lsp_core.specs.Session.{State, start, turn, session, is_exited}
use Rattle.lsp_core.specs.declared.phase.Phase.{Phase}
use Rattle.lsp_core.specs.declared.phase.Phase.TheVariants.{Exited}
use Rattle.lsp_session.specs.declared.ended.Ended.{Ended}
use Rattle.lsp_session.specs.declared.ended.Ended.TheVariants as how

-- the frames of these bodies, one after the other
abbrev pub frames_of : List (List ℕ) → List ℕ
frames_of bodies = flat_map frame_of bodies

-- what is written for a stream: a frame for each reply to the messages of its frames
abbrev pub output : Configuration → List ℕ → List ℕ
output config bytes = frames_of (session config (frames bytes).bodies).replies

abbrev pub ended_in : Phase → StreamEnd → Ended
ended_in (Exited after_shutdown) end = how.Exit after_shutdown
ended_in _ InputEnd = how.InputEnd
ended_in _ (BadFrame fault) = how.BadFrame (code_of fault)

-- how the session on a stream ends: by an exit, or as the stream does
abbrev pub ended : Configuration → List ℕ → Ended
ended config bytes = ended_in (session config (frames bytes).bodies).state.phase (frames bytes).end

-- how many of the bodies are taken from a state on: those up to the exit, with it
abbrev pub taken_from : State → List (List ℕ) → ℕ
taken_from s [] = 0
taken_from s (body ∷ bodies) = if is_exited s.phase then 0 else suc (taken_from (turn s (message_of body)).state bodies)

-- the bytes without their first frame
abbrev pub behind_first : List ℕ → FirstFrame → List ℕ
behind_first bytes (Whole body rest) = rest
behind_first bytes (NoFrame end) = bytes

-- the bytes without their first n frames
abbrev pub behind_frames : ℕ → List ℕ → List ℕ
behind_frames zero bytes = bytes
behind_frames (suc n) bytes = behind_frames n (behind_first bytes (first_frame bytes))

-- the bytes behind the frame of the exit
abbrev pub behind_exit : Configuration → List ℕ → List ℕ
behind_exit config bytes = behind_frames (taken_from (start config) (frames bytes).bodies) bytes

-- messages behind an exit change nothing, and nothing is replied to them
abbrev pub NothingFollowsAnExit : Type 0
NothingFollowsAnExit = (config : Configuration) (bodies later : List (List ℕ)) → is_exited (session config bodies).state.phase ≡ true → session config (bodies ++ later) ≡ session config bodies

-- ---- what a caller of the server sees

abbrev pub IsExit : Ended → Type 0
IsExit (how.Exit after_shutdown) = ⊤
IsExit _ = ⊥

-- a bad frame has a number from 101 to 106
abbrev pub HasFrameCode : Ended → Type 0
HasFrameCode (how.BadFrame code) = (101 ≤ code) × (code ≤ 106)
HasFrameCode _ = ⊤

-- the reader goes on behind an exit, and else answers from then on what the session ended with
abbrev pub LeavesReader : Option LastAnswer → Ended → Type 0
LeavesReader last (how.Exit after_shutdown) = last ≡ None
LeavesReader last how.InputEnd = last ≡ Some AtEnd
LeavesReader last (how.BadFrame code) = (fault : FrameFault) × (last ≡ Some (Failed fault)) × (code ≡ code_of fault)

-- behind the front these bytes complete one frame at most
abbrev pub CompleteOneAtMost : List ℕ → List ℕ → Type 0
CompleteOneAtMost front last = (body : Option (List ℕ)) × ((frames (front ++ last)).bodies ≡ (frames front).bodies ++ option_to_list body)

-- The bytes are a front, these last ones, which complete one frame at most, and a rest, which is left. Of what the session says to the front
-- and the last ones so many bytes went out, and no fewer than it says to the front.
pub record Answered (config : Configuration) (bytes last : List ℕ) (left old new : Option (List ℕ)) : Type 0 where
  pub front : List ℕ
  pub rest : List ℕ
  pub joined : bytes ≡ front ++ last ++ rest
  pub is_left : left ≡ Some rest
  pub one_at_most : CompleteOneAtMost front last
  pub sent : ℕ
  pub enough : length (output config front) ≤ sent
  pub wrote : Appends old new (take sent (output config (front ++ last)))
