-- Which texts a board has beside files, and what is done to the board where a file gets another text.
use Rattle.std.specs.Prelude.{◌≡◌, ◌+◌, ◌<◌, ℕ, List, [], ◌∷◌, if◌then◌else◌, Option, Some, None, fold}
use Rattle.piece_collector.specs.Events.{Event, SetText, Remove}
use Rattle.piece_collector.specs.Views.{BoardView, known_text}
use Rattle.work_files.specs.Files.{Files, text_at}
use Rattle.work_files.specs.Texts.{is_open}

-- the board has the text of each file that has one, and no other
abbrev pub HoldsTexts : Files → BoardView → Type 0
HoldsTexts files board = (path : List ℕ) → known_text path board ≡ text_at path files

-- what is done to a board where a path gets this text, or loses its text
abbrev pub text_event : List ℕ → Option (List ℕ) → Event
text_event path None = Remove path
text_event path (Some text) = SetText path text

-- the event where the text of this path was set or lost; the files are those after it
abbrev pub event_at : List ℕ → Files → Event
event_at path files = text_event path (text_at path files)

-- the event of a change or a close: none where no document was open at the path
abbrev pub events_at : List ℕ → Files → Files → List Event
events_at path old new = if is_open path old then event_at path new ∷ [] else []

-- the text of each file is set, in the order of the paths; the latest event comes first
abbrev pub first_events : List (List ℕ × List ℕ) → List Event
first_events files = fold (λ events file. SetText file.0 file.1 ∷ events) [] files

-- behind this stamp there are fewer than so many: the last one is 18446744073709551615
abbrev pub StampsRunOut : ℕ → ℕ → Type 0
StampsRunOut stamp count = 18446744073709551615 < stamp + count
