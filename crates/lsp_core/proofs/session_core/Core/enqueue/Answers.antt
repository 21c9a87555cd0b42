use Rattle.std.proofs.Common.{[], ◌∷◌, ◌++◌, refl, map, ap, ◌∙◌}
use Rattle.std.proofs.lemmas.List.{map-append}
use Rattle.lsp_rpc.specs.Message.{message_view}
use Rattle.lsp_core.specs.View.{core_state}
use Rattle.lsp_core.proofs.CoreLemmas.{arrived}
use Rattle.lsp_core.proofs.session_core.Core.enqueue.Goals as goal

pub returns-clause-arrives : goal.returns-clause-arrives
returns-clause-arrives c = λ opening config h after.
    let old = c.args.self.now.queue.items in
    arrived opening config (core_state c.args.self.now) _ h c.args.body.now after refl
    (ap (map message_view) c.in_ok-push_back.ensures.items ∙ map-append message_view old (c.in_ok-message.message ∷ []) ∙ ap (λ m. map message_view old ++ m ∷ []) c.in_ok-message.ensures) refl refl
