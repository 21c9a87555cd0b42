use Rattle.lsp_core.specs.Core.{messages, processed}
use Rattle.lsp_core.specs.View.{core_state}
use Rattle.std.proofs.Common.{◌≡◌, ◌-◌, ◌<◌, ◌∙◌, length, arith, subst, sym}
use Rattle.std.proofs.lemmas.Bool.{ltb-true, lt-ltb}
use Rattle.lsp_core.proofs.CoreLemmas.{unprocessed-is}
use Rattle.lsp_core.proofs.session_core.Core.waits.Goals as goal

pub returns-clause-came : goal.returns-clause-came
returns-clause-came c = λ opening config h after.
    let left : c.unprocessed.result ≡ length (messages h) - processed h = c.unprocessed.ensures ∙ unprocessed-is opening config (core_state c.args.self.now) h after in
    (λ some. let more = ltb-true 0 c.unprocessed.result some in omega (arith, left, more), λ there. lt-ltb 0 c.unprocessed.result (omega (arith, left, there)))

pub returns-clause-counted : goal.returns-clause-counted
returns-clause-counted c = (λ some. subst (λ n. 0 < n) c.unprocessed.ensures (ltb-true 0 c.unprocessed.result some), λ there. lt-ltb 0 c.unprocessed.result (subst (λ n. 0 < n) (sym c.unprocessed.ensures) there))
