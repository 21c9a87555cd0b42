use Rattle.std.proofs.Common.{◌≡◌, ◌+◌, suc, sym, ap, subst, ◌∙◌, arith}
use Rattle.lsp_core.specs.Core.{IsAfter}
use Rattle.lsp_core.specs.Run.{with_rounds}
use Rattle.lsp_core.specs.View.{core_state}
use Rattle.lsp_core.proofs.CoreLemmas.{rounds-more, worked-none, worked-all}
use Rattle.lsp_runs.proofs.working.do_all.Goals as goal

pub loop-round-init : goal.loop-round-init
loop-round-init c = record { rounds = λ opening config h before. before; «open» = λ none. none }

pub returns-then-not-branch-clause-works : goal.returns-then-not-branch-clause-works
returns-then-not-branch-clause-works c = λ opening config h before.
    let n = c.loop-round._round in
    let behind = with_rounds n opening config h in
    let after = c.loop-round.invariant.rounds opening config h before in
    worked-none opening config c.next_jobs.ensures c.jobs_and_pieces.ensures.no_job (core_state c.do_next.new.core) n h (c.in_ok-do_next.ensures.none c.if-not-branch.true opening config behind after) (c.in_ok-do_next.ensures.round opening config behind after)

pub loop-round-preserved : goal.loop-round-preserved
loop-round-preserved c =
    let n = c.loop-round._round in
    let count : n + 1 ≡ suc n = omega arith in
    record {
      rounds = λ opening config h before.
          subst (λ g. IsAfter opening config (core_state c.do_next.new.core) g) (sym (ap (λ k. with_rounds k opening config h) count ∙ rounds-more opening config n h))
          (c.in_ok-do_next.ensures.round opening config (with_rounds n opening config h) (c.loop-round.invariant.rounds opening config h before));
      «open» = λ none. c.in_ok-do_next.ensures.open (c.loop-round.invariant.open none);
    }

pub returns-clause-works : goal.returns-clause-works
returns-clause-works c = λ opening config h before.
    worked-all opening config c.rounds_of_work.ensures.end (core_state c.args.core.now) (core_state c.loop-round.core) c.loop-round._round h before (omega (arith, c.loop-round-test.false, c.last_stamp-round-end.ensures)) (c.loop-round.invariant.rounds opening config h before)
