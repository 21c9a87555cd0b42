use Rattle.std.proofs.Common.{true≢false, sym, ◌∙◌, rules}
use Rattle.lsp_core.specs.View.{core_state}
use Rattle.lsp_core.proofs.CoreLemmas.{has-answered, still-awaits}
use Rattle.lsp_session.proofs.dispatch.await_replies.Goals as goal

pub returns-then-not-waits-clause-answers : goal.returns-then-not-waits-clause-answers
returns-then-not-waits-clause-answers g c = λ config bodies body w.
    has-answered config (core_state c.work_on.new.core) bodies body c.in-Ok.replies.items (c.in-Ok.ensures.progress config bodies body (c.loop-result.invariant.awaits config bodies body w))
    (λ h after there. true≢false (sym ((c.waits.ensures.came 0 config h after).1 there) ∙ c.if-not-waits.true))

pub loop-result-init : goal.loop-result-init
loop-result-init g c = record { awaits = λ config bodies body w. w; waits = c.requires; «open» = λ free. free }

pub loop-result-preserved : goal.loop-result-preserved
loop-result-preserved g c = record {
  awaits = λ config bodies body w.
      still-awaits config (core_state c.work_on.new.core) bodies body c.in-Ok.replies.items (c.in-Ok.ensures.progress config bodies body (c.loop-result.invariant.awaits config bodies body w))
      (λ h after. (c.waits.ensures.came 0 config h after).0 c.if-not-waits.false);
  waits = c.waits.ensures.counted.0 c.if-not-waits.false;
  «open» = λ free. c.in-Ok.ensures.open;
}

pub returns-in-Err-clause-stamps : goal.returns-in-Err-clause-stamps
returns-in-Err-clause-stamps g c = λ free out config bodies body w.
    let before = c.loop-result.invariant in
    c.in-Err.ensures.stamps (before.open free) out config bodies body (before.awaits config bodies body w)

pub work_on-requires : goal.work_on-requires
work_on-requires g c = (search rules, (search rules, c.loop-result.invariant.waits))
