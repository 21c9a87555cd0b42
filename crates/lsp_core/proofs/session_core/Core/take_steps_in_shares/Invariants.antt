use Rattle.std.proofs.Common.{◌≡◌}
use Rattle.lsp_core.specs.Core.{WhateverCame, Steps}
use Rattle.lsp_core.specs.Steps.{steps_left}
use Rattle.lsp_core.specs.View.{core_state, last_fault}
use Rattle.lsp_core.proofs.session_core.Core.take_steps_in_shares.Given as goal

-- so many steps are taken, with these replies
abbrev pub invariant-steps : goal.invariant-steps
invariant-steps g l = record {
  fault : last_fault l.self ≡ last_fault l.initial.self;
  taken : WhateverCame (core_state l.initial.self) (λ opening config h. Steps opening config (core_state l.self) h l.replies.items);
}

abbrev pub decreases-steps : goal.decreases-steps
decreases-steps g l = steps_left (core_state l.self)
