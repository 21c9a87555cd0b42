use Rattle.std.proofs.Common.{true≢false, Err, sym, ap, ◌∙◌, rules}
use Rattle.work_space.proofs.FirstEvents.{refused_with}
use Rattle.work_config.specs.declared.fault.ServeFault.TheVariants as served
use Rattle.lsp_core.specs.View.{core_state}
use Rattle.lsp_core.proofs.CoreLemmas.{if_ok, has-answered, still-awaits}
use Rattle.lsp_session.proofs.dispatch.answer.Goals as goal

pub returns-then-not-waits-clause-answers : goal.returns-then-not-waits-clause-answers
returns-then-not-waits-clause-answers g c = λ config bodies knows.
    has-answered config (core_state c.begin.new.core) bodies c.args.body.now c.in_ok-replies.replies.items (c.in_ok-replies.ensures.progress config bodies knows)
    (λ h after there. true≢false (sym ((c.waits.ensures.came 0 config h after).1 there) ∙ c.if-not-waits.true))

pub returns-clause-answers : goal.returns-clause-answers
returns-clause-answers g c = if_ok c.await_replies.result c.await_replies.ensures.answers (λ replies answers config bodies knows.
    let body = c.args.body.now in
    answers config bodies body
    (still-awaits config (core_state c.begin.new.core) bodies body c.in_ok-replies.replies.items (c.in_ok-replies.ensures.progress config bodies knows) (λ h after. (c.waits.ensures.came 0 config h after).0 c.if-not-waits.false)))

pub returns-clause-stamps : goal.returns-clause-stamps
returns-clause-stamps g c = λ free out config bodies knows.
    let body = c.args.body.now in
    c.await_replies.ensures.stamps c.in_ok-replies.ensures.open out config bodies body
    (still-awaits config (core_state c.begin.new.core) bodies body c.in_ok-replies.replies.items (c.in_ok-replies.ensures.progress config bodies knows) (λ h after. (c.waits.ensures.came 0 config h after).0 c.if-not-waits.false))

pub returns-in_err-replies-clause-stamps : goal.returns-in_err-replies-clause-stamps
returns-in_err-replies-clause-stamps g c = λ free out. c.in_err-replies.ensures.stamps free (ap Err (refused_with c.in_err-replies.field-0.0 served.Exhausted c.from_residual.result c.from_residual.ensures.1 out))

pub await_replies-requires : goal.await_replies-requires
await_replies-requires g c = (search rules, (search rules, c.waits.ensures.counted.0 c.if-not-waits.false))
