use Rattle.std.proofs.Common.{◌≡◌, ◌<◌, ℕ, List, None}
use Rattle.work_config.specs.Configuration.{Configuration}
use Rattle.lsp_core.specs.Steps.{Awaits, unprocessed}
use Rattle.lsp_core.specs.View.{core_state, last_fault}
use Rattle.lsp_session.proofs.dispatch.await_replies.Given as goal

-- what it awaited it still awaits, a message waits, and no fault was answered
abbrev pub invariant-loop-result : goal.invariant-loop-result
invariant-loop-result g l = record {
  awaits : (config : Configuration) (bodies : List (List ℕ)) (body : List ℕ) → Awaits config (core_state l.initial.core) bodies body → Awaits config (core_state l.core) bodies body;
  waits : 0 < unprocessed (core_state l.core);
  «open» : last_fault l.initial.core ≡ None → last_fault l.core ≡ None;
}
