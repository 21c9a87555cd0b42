use Rattle.std.proofs.Common.{◌≡◌, ℕ, List, ◌++◌, map, false}
use Rattle.std.specs.Vec.Iter.{into_iter_items}
use Rattle.piece_collector.specs.Events.{Event}
use Rattle.piece_collector.specs.Board.{IsAfter}
use Rattle.piece_collector.specs.Runs.{event_of, Ran}
use Rattle.piece_collector.proofs.event.run_events.Given as goal

-- what was done so far is a run of the events that were taken
abbrev pub invariant-loop-event : goal.invariant-loop-event
invariant-loop-event g l = record {
  here : l.board.is_lent ≡ false;
  parts : l.yielded ++ into_iter_items l.event-iterator ≡ l.fn.events.items;
  ran : (o : ℕ) (h : List Event) → IsAfter o l.fn.board h → Ran o h (map event_of l.yielded) l.board l.verdicts.items;
}
