use Rattle.std.proofs.Common.{◌≡◌, None}
use Rattle.lsp_core.specs.Core.{IsAfter, WhateverCame}
use Rattle.lsp_core.specs.Run.{with_rounds}
use Rattle.lsp_core.specs.View.{core_state, last_fault}
use Rattle.lsp_runs.proofs.working.do_all.Given as goal

-- so many rounds are done
abbrev pub invariant-loop-round : goal.invariant-loop-round
invariant-loop-round l = record {
  rounds : WhateverCame (core_state l.initial.core) (λ opening config h. IsAfter opening config (core_state l.core) (with_rounds l._round opening config h));
  «open» : last_fault l.initial.core ≡ None → last_fault l.core ≡ None;
}
