use Rattle.std.proofs.Common.{◌≡◌, ◌++◌, map, None}
use Rattle.std.specs.Vec.Iter.{into_iter_items}
use Rattle.lsp_runs.specs.Listed.{incoming_of}
use Rattle.lsp_core.specs.View.{core_state, last_fault}
use Rattle.lsp_runs.proofs.RunLemmas.{HasRunTo}
use Rattle.lsp_runs.proofs.run.run_core.Given as goal

-- the events so far were run
abbrev pub invariant-loop-event : goal.invariant-loop-event
invariant-loop-event l = record {
  parts : l.yielded ++ into_iter_items l.event-iterator ≡ l.fn.events.items;
  run : HasRunTo l.fn.config (core_state l.core) (map incoming_of l.yielded) l.replies.items l.verdicts.items;
  «open» : last_fault l.core ≡ None;
}
