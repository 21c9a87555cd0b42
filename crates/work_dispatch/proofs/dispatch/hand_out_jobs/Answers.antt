use Rattle.std.proofs.Common.{◌∷◌, ◌++◌, [], suc, arith, length, refl, sym, subst, ◌∙◌, replicate, append-nil, inl, inr}
use Rattle.std.proofs.lemmas.Bool.{false≢true}
use Rattle.piece_collector.specs.Events.{NextJob}
use Rattle.work_pool.specs.SentJobs.{HasRoom}
use Rattle.work_dispatch.proofs.SendingJobs.{records-more, room-also, room-more, sends-more, sends-same}
use Rattle.work_dispatch.proofs.dispatch.hand_out_jobs.Goals as goal

pub jobs-init : goal.jobs-init
jobs-init g c = record { files = refl; others = refl; jobs = ([], λ opening events after. after, record { given = λ opening events after. tt; sent = sym (append-nil _) }, λ k lt. absurd (omega (arith, lt))) }

pub jobs-preserved : goal.jobs-preserved
jobs-preserved g c =
    let before = c.jobs.invariant in
    let jobs = before.jobs.0 in
    let next = c.in_ok-hand_out_next.ensures.sends c.if-not-branch.false in
    let room = subst HasRoom before.jobs.2.sent (c.has_room.ensures.room.0 c.jobs-test.true) in
    record {
      files = c.hand_out_next.ensures.files ∙ before.files;
      others = c.hand_out_next.ensures.others ∙ before.others;
      jobs = (jobs ++ next.0 ∷ [], records-more _ _ _ jobs next.0 before.jobs.1 c.in_ok-hand_out_next.ensures.gives, sends-more _ _ _ _ _ jobs next.0 before.jobs.1 before.jobs.2 next.1, room-more _ jobs next.0 before.jobs.3 room);
    }

pub returns-then-not-branch-clause-hands : goal.returns-then-not-branch-clause-hands
returns-then-not-branch-clause-hands g c =
    let before = c.jobs.invariant in
    let jobs = before.jobs.0 in
    let n = length jobs in
    let room = subst HasRoom before.jobs.2.sent (c.has_room.ensures.room.0 c.jobs-test.true) in
    record {
      asked = suc n;
      records = λ opening events after. c.in_ok-hand_out_next.ensures.gives opening (replicate n NextJob ++ events) (before.jobs.1 opening events after);
      jobs = jobs;
      sends = sends-same _ _ _ _ jobs (c.in_ok-hand_out_next.ensures.rest c.if-not-branch.true) before.jobs.2;
      room = room-also _ jobs before.jobs.3 room;
      stops = inr (
        omega arith,
        λ opening events after. c.in_ok-hand_out_next.ensures.none c.if-not-branch.true opening (replicate n NextJob ++ events) (before.jobs.1 opening events after),
      );
    }

pub returns-clause-hands : goal.returns-clause-hands
returns-clause-hands g c =
    let before = c.jobs.invariant in
    record {
      asked = length before.jobs.0;
      records = before.jobs.1;
      jobs = before.jobs.0;
      sends = before.jobs.2;
      room = before.jobs.3;
      stops = inl (refl, λ room. false≢true (sym c.jobs-test.false ∙ c.has_room.ensures.room.1 room));
    }
