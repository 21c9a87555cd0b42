-- Jobs that are given and sent one after the other.
use Rattle.std.proofs.Common.{◌≡◌, ℕ, zero, suc, ◌<◌, List, [], ◌∷◌, ◌++◌, replicate, length, map, take, refl, sym, ap, ◌∙◌, subst, arith, append_assoc, length-append}
use Rattle.std.proofs.lemmas.List.{map-append, take-append-le}
use Rattle.piece_collector.specs.Events.{Event, NextJob}
use Rattle.piece_collector.specs.Views.{TextAt, BoardView}
use Rattle.piece_collector.specs.Board.{Records}
use Rattle.work_pool.specs.SentJobs.{noted, HasRoom}
use Rattle.work_pool.specs.declared.sent_jobs.SentJob.{SentJob}
use Rattle.work_dispatch.specs.Dispatch.{IsNextJob, AreNextJobs, Sends}

-- one more job comes behind the others
asked-more : (n : ℕ) (events : List Event) → NextJob ∷ (replicate n NextJob ++ events) ≡ replicate n NextJob ++ NextJob ∷ events
asked-more zero events = refl
asked-more (suc n) events = ap (λ es. NextJob ∷ es) (asked-more n events)

given-more : (opening : ℕ) (events : List Event) (jobs : List TextAt) (job : TextAt) → AreNextJobs opening events jobs → IsNextJob opening (replicate (length jobs) NextJob ++ events) job → AreNextJobs opening events (jobs ++ job ∷ [])
given-more opening events [] job given next = (next, tt)
given-more opening events (first ∷ jobs) job given next = (given.0, given-more opening (NextJob ∷ events) jobs job given.1 (subst (λ es. IsNextJob opening es job) (asked-more (length jobs) events) next))

pub records-more : (old now new : BoardView) (jobs : List TextAt) (job : TextAt) → Records old now (replicate (length jobs) NextJob) → Records now new (NextJob ∷ []) → Records old new (replicate (length (jobs ++ job ∷ [])) NextJob)
records-more old now new jobs job before next =
    let size : suc (length jobs) ≡ length (jobs ++ job ∷ []) = omega (arith, length-append jobs (job ∷ [])) in
    subst (λ n. Records old new (replicate n NextJob)) size (λ opening events after. next opening (replicate (length jobs) NextJob ++ events) (before opening events after))

pub sends-more : (old now : BoardView) (before sent after : List SentJob) (jobs : List TextAt) (job : TextAt) → Records old now (replicate (length jobs) NextJob) → Sends old before sent jobs → Sends now sent after (job ∷ []) → Sends old before after (jobs ++ job ∷ [])
sends-more old now before sent after jobs job records so_far next = record {
  given = λ opening events is_after. given-more opening events jobs job (so_far.given opening events is_after) (next.given opening (replicate (length jobs) NextJob ++ events) (records opening events is_after)).0;
  sent = next.sent ∙ ap (λ s. s ++ noted job ∷ []) so_far.sent ∙ append_assoc before (map noted jobs) (noted job ∷ []) ∙ ap (λ s. before ++ s) (sym (map-append noted jobs (job ∷ [])));
}

pub sends-same : (old : BoardView) (before sent after : List SentJob) (jobs : List TextAt) → after ≡ sent → Sends old before sent jobs → Sends old before after jobs
sends-same old before sent after jobs same so_far = record { given = so_far.given; sent = same ∙ so_far.sent }

-- what is so of each front of a list and of the whole
up-to : (P : List TextAt → Type 0) (jobs : List TextAt) → ((k : ℕ) → k < length jobs → P (take k jobs)) → P jobs → (k : ℕ) → k < suc (length jobs) → P (take k jobs)
up-to P [] front all zero lt = all
up-to P [] front all (suc k) lt = absurd (omega (arith, lt))
up-to P (job ∷ jobs) front all zero lt = front zero (omega arith)
up-to P (job ∷ jobs) front all (suc k) lt = up-to (λ some. P (job ∷ some)) jobs (λ i less. front (suc i) (omega (arith, less))) all k (omega (arith, lt))

-- each time there was room for one more
abbrev had-room : List SentJob → List TextAt → Type 0
had-room before jobs = (k : ℕ) → k < length jobs → HasRoom (before ++ map noted (take k jobs))

pub room-also : (before : List SentJob) (jobs : List TextAt) → had-room before jobs → HasRoom (before ++ map noted jobs) → (k : ℕ) → k < suc (length jobs) → HasRoom (before ++ map noted (take k jobs))
room-also before jobs = up-to (λ some. HasRoom (before ++ map noted some)) jobs

pub room-more : (before : List SentJob) (jobs : List TextAt) (job : TextAt) → had-room before jobs → HasRoom (before ++ map noted jobs) → had-room before (jobs ++ job ∷ [])
room-more before jobs job front all k lt =
    let less : k < suc (length jobs) = omega (arith, lt, length-append jobs (job ∷ [])) in
    subst (λ some. HasRoom (before ++ map noted some)) (sym (take-append-le k jobs (job ∷ []) (omega (arith, less)))) (room-also before jobs front all k less)
