-- Runs of events that a caller lists, the earliest first.
use Rattle.std.specs.Prelude.{◌≡◌, ◌↔◌, ℕ, List, [], ◌∷◌, ◌++◌, string_bytes}
use Rattle.piece_collector.specs.declared.event.BoardEvent.{BoardEvent}
use Rattle.piece_collector.specs.declared.event.BoardEvent.TheVariants as listed
use Rattle.piece_collector.specs.declared.fault.BoardFault.{BoardFault}
use Rattle.piece_collector.specs.declared.fault.BoardFault.TheVariants.{Memory, Exhausted}
use Rattle.piece_collector.specs.declared.verdict.Verdict.{Verdict}
use Rattle.piece_collector.specs.Events.{Event, SetText, Remove, NextJob, Offer, Fail}
use Rattle.piece_collector.specs.History.{verdicts}
use Rattle.piece_collector.specs.Views.{BoardView}
use Rattle.piece_collector.specs.Board.{IsAfter}

-- the event by its path, stamp and text
abbrev pub event_of : {W O : Type 0} → BoardEvent W O → Event
event_of (listed.SetText p t) = SetText (string_bytes p) (string_bytes t)
event_of (listed.Remove p) = Remove (string_bytes p)
event_of listed.NextJob = NextJob
event_of (listed.Offer piece) = Offer piece.path piece.stamp piece.text
event_of (listed.Fail p s) = Fail (string_bytes p) s

-- the earlier events h, the latest first, and those listed, the earliest first, as one list, the latest first
abbrev pub followed : List Event → List Event → List Event
followed h [] = h
followed h (e ∷ es) = followed (e ∷ h) es

-- the board stands for h and all listed events, and these are the verdicts of the listed ones in their order
pub record Ran (o : ℕ) (h es : List Event) (b : BoardView) (vs : List Verdict) : Type 0 where
  pub is_after : IsAfter o b (followed h es)
  pub answers : verdicts o (followed h es) ≡ verdicts o h ++ vs

-- An event can be refused with this fault, at a board with this last stamp: a text with 502 exactly where no stamp is
-- left, and else with 501; a removal never; any other event with 501.
abbrev pub IsRefusedWith : ℕ → Event → BoardFault → Type 0
IsRefusedWith last (SetText p t) fault = (fault ≡ Exhausted) ↔ (last ≡ 18446744073709551615)
IsRefusedWith last (Remove p) fault = ⊥
IsRefusedWith last NextJob fault = fault ≡ Memory
IsRefusedWith last (Offer p s t) fault = fault ≡ Memory
IsRefusedWith last (Fail p s) fault = fault ≡ Memory

-- one of the listed events was refused with this fault: the board stands for h and those before it
pub record Stopped (o : ℕ) (h es : List Event) (b : BoardView) (fault : BoardFault) : Type 0 where
  pub before : List Event
  pub event : Event
  pub later : List Event
  pub parts : es ≡ before ++ event ∷ later
  pub is_after : IsAfter o b (followed h before)
  pub refused : IsRefusedWith b.last event fault
