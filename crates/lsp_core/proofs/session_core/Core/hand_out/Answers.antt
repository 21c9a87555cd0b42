use Rattle.std.proofs.Common.{refl}
use Rattle.lsp_core.specs.View.{core_state}
use Rattle.lsp_core.proofs.CoreLemmas.{same-state, hands-out}
use Rattle.lsp_core.proofs.session_core.Core.hand_out.Goals as goal

pub returns-in-Ok-clause-works : goal.returns-in-Ok-clause-works
returns-in-Ok-clause-works g c = λ opening config h after. hands-out opening config (core_state c.args.self.now) _ h (same-state c.args.self.now.session c.args.self.now.workspace c.hand_out_jobs.new.workspace c.hand_out_jobs.ensures.files c.hand_out_jobs.ensures.others) refl refl after _ _ c.in-Ok.ensures.hands
