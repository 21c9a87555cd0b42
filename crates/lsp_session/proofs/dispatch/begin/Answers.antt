use Rattle.std.proofs.Common.{◌∷◌, ◌++◌, [], length, subst}
use Rattle.lsp_core.specs.Core.{Arrive, ExhaustsStamps}
use Rattle.lsp_core.specs.View.{core_state}
use Rattle.lsp_core.proofs.CoreLemmas.{if_ok, awaits-message, progresses}
use Rattle.lsp_session.proofs.dispatch.begin.Goals as goal

pub returns-in-Ok-clause-progress : goal.returns-in-Ok-clause-progress
returns-in-Ok-clause-progress g c = if_ok c.advance.result c.advance.ensures.advances (λ replies advances config bodies knows.
    let old = core_state c.args.core.now in
    let mid = core_state c.message.new.self in
    let body = c.args.body.now in
    progresses config mid (core_state c.advance.new.core) bodies body replies.items (awaits-message config old mid bodies body knows (c.in-Ok.ensures.arrives 0 config)) (advances 0 config))

pub returns-in-Ok-clause-stamps : goal.returns-in-Ok-clause-stamps
returns-in-Ok-clause-stamps g c = λ free out config bodies knows.
    let body = c.args.body.now in
    let h = knows.history in
    subst (λ bs. ExhaustsStamps 0 config (length (bs ++ body ∷ []))) knows.came (c.advance.ensures.stamps c.in-Ok.ensures.open out 0 config (Arrive body ∷ h) (c.in-Ok.ensures.arrives 0 config h knows.is_after))
