-- A core of the session, which takes messages and work in any order, in terms of what has happened to it.
use Rattle.std.specs.Prelude.{◌≡◌, ◌⊎◌, ℕ, suc, ◌+◌, ◌<◌, List, [], ◌∷◌, ◌++◌, ⊤, Bool, true, false, if◌then◌else◌, Option, Some, None, length, take, drop, map, slice_index_or}
use Rattle.piece_collector.specs.Board.{IsComplete}
use Rattle.piece_collector.specs.Board as board
use Rattle.piece_collector.specs.Events as work
use Rattle.piece_collector.specs.History.{sets, history}
use Rattle.piece_collector.specs.Views.{BoardView}
use Rattle.lsp_rpc.specs.Message.{MessageData, message_of}
use Rattle.work_config.specs.Configuration.{Configuration, files_of}
use Rattle.work_files.specs.Files.{workspace}
use Rattle.work_space.specs.BoardTexts.{StampsRunOut, first_events}
use Rattle.lsp_core.specs.Session.{State, Pending, Turn, turn, waits, needs_analysis, session}
use Rattle.lsp_core.specs.BoardEvents.{board_events_of}
use Rattle.lsp_core.specs.declared.step.Step.{Step}
use Rattle.lsp_core.specs.declared.step.Step.TheVariants.{Begin, Finish}

-- What happens to a core: a message arrives; the core takes a step; a job is asked for; the work on a text is brought, by its path,
-- the stamp and the text; the failure of a job is brought, by its path and stamp.
pub data Event : Type 0 where
  Arrive : List ℕ → Event
  Advance : Step → Event
  Give : Event
  Offer : List ℕ → ℕ → List ℕ → Event
  Fail : List ℕ → ℕ → Event

-- A history is a list of events, the latest first. The bodies of the messages that arrived, in order.
abbrev pub messages : List Event → List (List ℕ)
messages [] = []
messages (Arrive body ∷ h) = messages h ++ body ∷ []
messages (Advance step ∷ h) = messages h
messages (Give ∷ h) = messages h
messages (Offer path stamp text ∷ h) = messages h
messages (Fail path stamp ∷ h) = messages h

-- how many of them are processed: each has begun and is finished
abbrev pub processed : List Event → ℕ
processed [] = 0
processed (Arrive body ∷ h) = processed h
processed (Advance Begin ∷ h) = processed h
processed (Advance Finish ∷ h) = suc (processed h)
processed (Give ∷ h) = processed h
processed (Offer path stamp text ∷ h) = processed h
processed (Fail path stamp ∷ h) = processed h

-- whether the first that isn't processed has begun
abbrev pub has_begun : List Event → Bool
has_begun [] = false
has_begun (Arrive body ∷ h) = has_begun h
has_begun (Advance Begin ∷ h) = true
has_begun (Advance Finish ∷ h) = false
has_begun (Give ∷ h) = has_begun h
has_begun (Offer path stamp text ∷ h) = has_begun h
has_begun (Fail path stamp ∷ h) = has_begun h

-- how many have begun
abbrev pub begun : List Event → ℕ
begun h = if has_begun h then suc (processed h) else processed h

-- those that are processed, those that haven't begun, and the first that isn't processed
abbrev pub done : List Event → List (List ℕ)
done h = take (processed h) (messages h)

abbrev pub waiting : List Event → List (List ℕ)
waiting h = drop (begun h) (messages h)

abbrev pub next_body : List Event → List ℕ
next_body h = slice_index_or (messages h) (processed h) []

-- the state of the session after the messages that have begun
abbrev pub state_after : Configuration → List Event → State
state_after config h = (session config (take (begun h) (messages h))).state

-- what the first message that isn't processed changes, and what is left to be answered to it
abbrev pub beginning : Configuration → List Event → Turn
beginning config h = turn (session config (done h)).state (message_of (next_body h))

abbrev pub pending_after : Configuration → List Event → Option Pending
pending_after config h = if has_begun h then Some (beginning config h).pending else None

-- What was done to the board, the latest first: a message changes it once, as it begins. The texts of the files on disk come in the
-- order of their paths.
abbrev pub board_events : Configuration → List Event → List work.Event
board_events config [] = first_events (workspace (files_of config))
board_events config (Arrive body ∷ h) = board_events config h
board_events config (Advance Begin ∷ h) = board_events_of (session config (done h)).state (message_of (next_body h)) ++ board_events config h
board_events config (Advance Finish ∷ h) = board_events config h
board_events config (Give ∷ h) = work.NextJob ∷ board_events config h
board_events config (Offer path stamp text ∷ h) = work.Offer path stamp text ∷ board_events config h
board_events config (Fail path stamp ∷ h) = work.Fail path stamp ∷ board_events config h

-- ---- which steps may come

-- each message that has begun is processed, and a further one is there
pub record MayBegin (h : List Event) : Type 0 where
  pub idle : has_begun h ≡ false
  pub there : processed h < length (messages h)

-- a message has begun, and it doesn't wait or the board is complete
pub record MayFinish (opening : ℕ) (config : Configuration) (h : List Event) : Type 0 where
  pub begun : has_begun h ≡ true
  pub ready : waits (beginning config h).pending ≡ true → IsComplete opening (board_events config h)

abbrev pub MayStep : ℕ → Configuration → List Event → Step → Type 0
MayStep opening config h Begin = MayBegin h
MayStep opening config h Finish = MayFinish opening config h

-- each step came only where it might
abbrev pub IsLegal : ℕ → Configuration → List Event → Type 0
IsLegal opening config [] = ⊤
IsLegal opening config (Arrive body ∷ h) = IsLegal opening config h
IsLegal opening config (Advance step ∷ h) = MayStep opening config h step × IsLegal opening config h
IsLegal opening config (Give ∷ h) = IsLegal opening config h
IsLegal opening config (Offer path stamp text ∷ h) = IsLegal opening config h
IsLegal opening config (Fail path stamp ∷ h) = IsLegal opening config h

-- a message has begun, it waits, and the board isn't complete
pub record IsHeldUp (opening : ℕ) (config : Configuration) (h : List Event) : Type 0 where
  pub begun : has_begun h ≡ true
  pub waits : waits (beginning config h).pending ≡ true
  pub incomplete : ¬ IsComplete opening (board_events config h)

-- after an advance all messages are processed, or the first that isn't is held up
abbrev pub IsSettled : ℕ → Configuration → List Event → Type 0
IsSettled opening config h = (processed h ≡ length (messages h)) ⊎ IsHeldUp opening config h

-- ---- a core

-- what a core keeps: the state of the session, the messages that haven't begun, what is left to be answered to the one that has, and
-- the board
pub record CoreState : Type 0 where
  pub state : State
  pub queue : List MessageData
  pub pending : Option Pending
  pub board : BoardView

-- the core is as after this history, and its board counted the stamps from the opening one
pub record IsAfter (opening : ℕ) (config : Configuration) (core : CoreState) (h : List Event) : Type 0 where
  pub legal : IsLegal opening config h
  pub state : core.state ≡ state_after config h
  pub queue : core.queue ≡ map message_of (waiting h)
  pub pending : core.pending ≡ pending_after config h
  pub board : board.IsAfter opening core.board (board_events config h)

-- this is so of every history that the core is as after
abbrev pub WhateverCame : CoreState → (ℕ → Configuration → List Event → Type 0) → Type 0
WhateverCame core says = (opening : ℕ) (config : Configuration) (h : List Event) → IsAfter opening config core h → says opening config h

-- whatever history the old core is as after, the new one is as after that and then these events, the latest first
abbrev pub Records : CoreState → CoreState → List Event → Type 0
Records old new later = WhateverCame old (λ opening config h. IsAfter opening config new (later ++ h))

-- after some steps that may come, the message that has begun may finish, and it is answered from an analysis
pub record ComesToAnAnalysis (opening : ℕ) (config : Configuration) (h : List Event) : Type 0 where
  pub steps : List Step
  pub legal : IsLegal opening config (map Advance steps ++ h)
  pub ready : MayFinish opening config (map Advance steps ++ h)
  pub needs : needs_analysis (beginning config (map Advance steps ++ h)).pending ≡ true

-- steps may come after which more texts were set than there are stamps behind the opening one
pub record FindsNoStamp (opening : ℕ) (config : Configuration) (h : List Event) : Type 0 where
  pub steps : List Step
  pub legal : IsLegal opening config (map Advance steps ++ h)
  pub run_out : StampsRunOut opening (sets (history opening (board_events config (map Advance steps ++ h))))

-- the files on disk and so many messages with one text each are more than there are stamps behind the opening one
abbrev pub ExhaustsStamps : ℕ → Configuration → ℕ → Type 0
ExhaustsStamps opening config count = StampsRunOut opening (length (workspace (files_of config)) + count)

-- the replies to the processed messages are the first ones, then these
abbrev pub Replied : Configuration → List Event → List (List ℕ) → List (List ℕ) → Type 0
Replied config h first replies = (session config (done h)).replies ≡ first ++ replies

-- the core is as after this history and these steps, with these replies
pub record Steps (opening : ℕ) (config : Configuration) (core : CoreState) (h : List Event) (replies : List (List ℕ)) : Type 0 where
  pub steps : List Step
  pub is_after : IsAfter opening config core (map Advance steps ++ h)
  pub replied : Replied config (map Advance steps ++ h) (session config (done h)).replies replies

-- the same after an advance: no further step may come
pub record Advances (opening : ℕ) (config : Configuration) (core : CoreState) (h : List Event) (replies : List (List ℕ)) : Type 0 where
  pub taken : Steps opening config core h replies
  pub settled : IsSettled opening config (map Advance taken.steps ++ h)
