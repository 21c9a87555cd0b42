-- What a message does to the board of the texts.
use Rattle.std.specs.Prelude.{◌≡◌, ℕ, List, [], ◌∷◌, Option, Some, None}
use Rattle.piece_collector.specs.Events.{Event, SetText}
use Rattle.serde_json.specs.Data.{Data}
use Rattle.lsp_rpc.specs.Message.{MessageData, notification}
use Rattle.lsp_rpc.specs.declared.method.Method.{Method}
use Rattle.lsp_rpc.specs.declared.method.Method.TheVariants.{DidOpen, DidChange, DidClose}
use Rattle.work_files.specs.Files.{Files}
use Rattle.work_space.specs.BoardTexts.{event_at, events_at}
use Rattle.lsp_core.specs.Session.{State, turn, path_in, opened_path, changed_path}
use Rattle.lsp_core.specs.declared.phase.Phase.{Phase}
use Rattle.lsp_core.specs.declared.phase.Phase.TheVariants.{Running}

-- nothing is done without a path
abbrev pub events_for_path : (List ℕ → List Event) → Option (List ℕ) → List Event
events_for_path events None = []
events_for_path events (Some path) = events path

-- An open sets the text of its path. A change of an open document sets it too, once for the whole list of changes, and a close of
-- one sets the kept text, or removes the path where none is kept. The files are those after the message.
abbrev pub events_by_method : State → Option Method → Data → Files → List Event
events_by_method s (Some DidOpen) params files = events_for_path (λ path. event_at path files ∷ []) (opened_path s params)
events_by_method s (Some DidChange) params files = events_for_path (λ path. events_at path s.files files) (changed_path s params)
events_by_method s (Some DidClose) params files = events_for_path (λ path. events_at path s.files files) (path_in s params)
events_by_method s _ params files = []

-- where the server isn't running, nothing is done to the board
abbrev pub events_in_phase : Phase → State → Option Method → Data → Files → List Event
events_in_phase Running s method params files = events_by_method s method params files
events_in_phase _ s method params files = []

-- what a message does to the board, the latest event first, where the files are these after it
abbrev pub events_of : State → MessageData → Files → List Event
events_of s (notification method params) files = events_in_phase s.phase s method params files
events_of s _ files = []

abbrev pub board_events_of : State → MessageData → List Event
board_events_of s m = events_of s m (turn s m).state.files

-- a text is set, and nothing else is done
abbrev pub SetsText : List Event → Type 0
SetsText events = (path : List ℕ) × (text : List ℕ) × (events ≡ SetText path text ∷ [])
