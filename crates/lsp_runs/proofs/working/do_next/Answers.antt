use Rattle.std.proofs.Common.{◌∷◌, sym, ap, subst, ◌∙◌}
use Rattle.lsp_core.specs.Core.{Give, IsAfter}
use Rattle.lsp_core.specs.View.{core_state}
use Rattle.lsp_core.proofs.CoreLemmas.{round-some}
use Rattle.lsp_runs.proofs.working.do_next.Goals as goal

pub returns-clause-round : goal.returns-clause-round
returns-clause-round c = λ opening config h before.
    let first = rw c.in-Some.is at (c.in_ok-job.ensures.first opening config h before) in
    let text = rw c.in-Some.is at (c.in_ok-job.ensures.text opening config h before) in
    subst (λ g. IsAfter opening config (core_state c.offer.new.self) g) (ap (λ e. e ∷ Give ∷ h) c.in_ok-sent.ensures.sent ∙ sym (round-some opening config c.next_jobs.ensures h c.in-Some.job first text))
    (c.in_ok-offer.ensures.brings opening config (Give ∷ h) (c.in_ok-job.ensures.gives opening config h before))
