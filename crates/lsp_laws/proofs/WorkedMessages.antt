-- Messages that are each followed by all work are all processed.
use Rattle.std.proofs.Common.{◌≡◌, ℕ, ◌+◌, ◌≤◌, List, [], ◌∷◌, ◌++◌, length, map, true, refl, sym, ap, subst, ◌∙◌, arith, append-nil, append_assoc, length-append, ⊎_elim}
use Rattle.collector_laws.specs.WorkLaws.{NoneIsOut, OnlyJobsMakePathsOut, CompleteIsNoneWantedAndNoneOut, RoundsLeaveNoneOut}
use Rattle.piece_collector.specs.Board.{IsComplete}
use Rattle.piece_collector.specs.declared.verdict.Verdict.{Verdict}
use Rattle.work_config.specs.Configuration.{Configuration}
use Rattle.lsp_core.specs.Core.{Event, Advance, messages, processed, has_begun, board_events, IsLegal}
use Rattle.lsp_core.specs.Run.{Message, Work, Follows, Runs, HasRun}
use Rattle.lsp_core.specs.Session.{session}
use Rattle.lsp_core.proofs.CoreLemmas.{there-begun, messages-steps, processed-steps, no-steps, done-all, none-out-first, none-out-steps, messages-rounds, begun-rounds, processed-rounds, worked-complete}
use Rattle.lsp_laws.specs.CoreLaws.{with_work}

-- all messages are processed, and no job is out
record IsIdle (config : Configuration) (bodies : List (List ℕ)) (h : List Event) : Type 0 where
  pub came : messages h ≡ bodies
  pub idle : processed h ≡ length (messages h)
  pub none_out : NoneIsOut 0 (board_events config h)

module _ (config : Configuration) (only : OnlyJobsMakePathsOut) (complete : CompleteIsNoneWantedAndNoneOut) (rounds : RoundsLeaveNoneOut) where
  one-more : (bodies : List (List ℕ)) (body : List ℕ) (h mid last : List Event) → IsIdle config bodies h → Follows 0 config (Message body) h mid → Follows 0 config Work mid last → IsIdle config (bodies ++ body ∷ []) last
  one-more bodies body h mid last k f w =
      let n2 = w.comes.rounds in
      let first : messages mid ≡ bodies ++ body ∷ [] = ap messages f.is ∙ messages-steps f.steps f.after ∙ ap messages f.comes ∙ ap (λ b. b ++ body ∷ []) k.came in
      let count : processed h ≤ processed mid = subst (λ n. n ≤ processed mid) (ap processed f.comes) (subst (λ g. processed f.after ≤ processed g) (sym f.is) (processed-steps f.steps f.after)) in
      let behind : messages w.after ≡ bodies ++ body ∷ [] = ap messages w.comes.is ∙ messages-rounds 0 config n2 mid ∙ first in
      let counted : processed w.after ≡ processed mid = ap processed w.comes.is ∙ processed-rounds 0 config n2 mid in
      let none : NoneIsOut 0 (board_events config mid) =
      subst (λ g. NoneIsOut 0 (board_events config g)) (sym f.is) (none-out-steps 0 config only f.steps f.after (subst (λ g. NoneIsOut 0 (board_events config g)) (sym f.comes) k.none_out)) in
      let ready = worked-complete 0 config complete rounds mid w.after w.comes none in
      let came : messages last ≡ bodies ++ body ∷ [] = ap messages w.is ∙ messages-steps w.steps w.after ∙ behind in
      let size : length (messages last) ≡ processed h + 1 = ap length came ∙ length-append bodies (body ∷ []) ∙ ap (λ c. c + 1) (sym (k.idle ∙ ap length k.came)) in
      let size_before : length (messages mid) ≡ processed h + 1 = ap length first ∙ length-append bodies (body ∷ []) ∙ ap (λ c. c + 1) (sym (k.idle ∙ ap length k.came)) in
      let later : processed w.after ≤ processed last = subst (λ g. processed w.after ≤ processed g) (sym w.is) (processed-steps w.steps w.after) in
      record {
        came = came;
        idle = ⊎_elim
            (λ whole. whole)
            (λ held.
            let there = there-begun 0 config last w.legal held.begun in
            ⊎_elim
            (λ all. absurd (omega (arith, there, all, size, size_before, counted, later)))
            (λ before.
            let begun : has_begun w.after ≡ true = ap has_begun w.comes.is ∙ begun-rounds 0 config n2 mid ∙ before.begun in
            let same : processed last ≡ processed w.after = omega (arith, there, size, counted, later, count) in
            let none = no-steps 0 config w.steps w.after (subst (λ g. IsLegal 0 config g) w.is w.legal) begun (ap processed (sym w.is) ∙ same) in
            let board : board_events config last ≡ board_events config w.after = ap (board_events config) w.is ∙ ap (λ steps. board_events config (map Advance steps ++ w.after)) none in
            absurd (held.incomplete (subst (λ es. IsComplete 0 es) (sym board) ready.1)))
            f.settled)
            w.settled;
        none_out = subst (λ g. NoneIsOut 0 (board_events config g)) (sym w.is) (none-out-steps 0 config only w.steps w.after ready.0);
      }

  record Worked (bodies : List (List ℕ)) (last : List Event) (verdicts : List Verdict) : Type 0 where
    pub idle : IsIdle config bodies last
    pub silent : verdicts ≡ []

  worked-from : (bodies rest : List (List ℕ)) (h last : List Event) (verdicts : List Verdict) → IsIdle config bodies h → Runs 0 config h (with_work rest) last verdicts → Worked (bodies ++ rest) last verdicts
  worked-from bodies [] h last verdicts k runs = record {
    idle = subst (λ g. IsIdle config (bodies ++ []) g) (sym runs.0) (subst (λ b. IsIdle config b h) (sym (append-nil bodies)) k);
    silent = runs.1;
  }
  worked-from bodies (body ∷ rest) h last verdicts k runs =
      let mid = runs.0 in
      let more = runs.2.2 in
      let next = more.0 in
      let later = worked-from (bodies ++ body ∷ []) rest next last more.2.0 (one-more bodies body h mid next k runs.1 more.1) more.2.2 in
      record {
        idle = subst (λ b. IsIdle config b last) (append_assoc bodies (body ∷ []) rest) later.idle;
        silent = runs.2.1 ∙ more.2.1 ∙ later.silent;
      }

  pub worked_all : (bodies replies : List (List ℕ)) (verdicts : List Verdict) (count : ℕ) → HasRun config (with_work bodies) replies verdicts count → (replies ≡ (session config bodies).replies) × (verdicts ≡ []) × (count ≡ length bodies)
  worked_all bodies replies verdicts count run =
      let k = worked-from [] bodies [] run.history verdicts (record { came = refl; idle = refl; none_out = none-out-first 0 config only }) run.runs in
      (run.replied ∙ ap (λ b. (session config b).replies) (done-all run.history k.idle.idle ∙ k.idle.came), k.silent, run.counted ∙ k.idle.idle ∙ ap length k.idle.came)
