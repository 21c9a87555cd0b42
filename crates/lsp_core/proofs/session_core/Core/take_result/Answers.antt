use Rattle.std.proofs.Common.{refl}
use Rattle.lsp_core.specs.View.{core_state}
use Rattle.lsp_core.proofs.CoreLemmas.{same-state, brings-result}
use Rattle.lsp_core.proofs.session_core.Core.take_result.Goals as goal

pub returns-in-Ok-clause-works : goal.returns-in-Ok-clause-works
returns-in-Ok-clause-works g c = λ opening config h after. brings-result opening config (core_state c.args.self.now) _ h (same-state c.args.self.now.session c.args.self.now.workspace c.bring_result.new.workspace c.bring_result.ensures.files c.bring_result.ensures.others) refl refl after _ _ c.in-Ok.ensures.brings
