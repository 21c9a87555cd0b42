-- What a caller does to a board.
use Rattle.std.specs.Prelude.{ℕ, List}

-- An event: a text set at a path, a path removed, a job asked for, a piece brought by its path, stamp and text, and the
-- failure of a job by its path and stamp. A list of events has the latest first, as a list grows at its front.
pub data Event : Type 0 where
  SetText : List ℕ → List ℕ → Event
  Remove : List ℕ → Event
  NextJob : Event
  Offer : List ℕ → ℕ → List ℕ → Event
  Fail : List ℕ → ℕ → Event
