use Rattle.std.proofs.Common.{◌≡◌, ◌<◌, ◌≤◌, ◌+◌, true, length, get_or, sym, ap, subst, ◌∙◌, arith}
use Rattle.std.proofs.lemmas.List.{get_or_default}
use Rattle.work_links.specs.Asked.{has_all}
use Rattle.work_index.specs.Workspace.{asked_of, no_file}
use Rattle.work_changes.specs.Changes.{waits}
use Rattle.work_changes.specs.declared.relinking.Relinking.{Relinking}
use Rattle.work_changes.proofs.LinkedAgain.{AreFollowed, all_followed, one_followed, passed_over}
use Rattle.work_changes.proofs.relinking.follow.Goals as goal
use Rattle.work_changes.proofs.relinking.follow.Goals.{then-not-index+in_ok-effect+in_ok-take_effect, else-not-index}

pub loop-file-preserved : goal.loop-file-preserved
loop-file-preserved c =
    let w = c.args.files.now in
    let new = c.args.table.now in
    let start = c.args.relinking.now in
    let now = c.loop-file.relinking in
    let n = c.loop-file.file in
    let so_far = c.loop-file.invariant in
    let places = so_far.places in
    let there : n < length w = c.loop-file-test.true in
    let is : waits now n ≡ c.index.result.now = get_or_default now.waiting.items n true c.index.result.now (omega (arith, there, places.waiting)) ∙ sym c.index.ensures in
    elim c.if-not-index.branch [
      | then-not-index+in_ok-effect+in_ok-take_effect x ↦
          let source = c.index-files-file.result in
          let at : get_or w n no_file ≡ source = get_or_default w n no_file source there ∙ sym c.index-files-file.is in
          let has : has_all x.asked.result.now (asked_of (let file = get_or w n no_file in file.1)) ≡ true = rw at x.asked.ensures in
          one_followed new w start now n so_far c.args.change.now c.requires.before c.requires.seen_law c.requires.touched_law there x.asked.result.now has (is ∙ x.if-not-index.true) x.in_ok-effect.effect x.in_ok-effect.ensures c.if-not-index.relinking
          (record {
            links = ap (λ (r : Relinking). r.resolutions.links.items) x.relinking-is ∙ x.in_ok-take_effect.ensures.links;
            diagnostics = ap (λ (r : Relinking). r.resolutions.diagnostics.items) x.relinking-is ∙ x.take_effect.ensures.diagnostics;
            waiting = ap (λ (r : Relinking). r.waiting.items) x.relinking-is ∙ x.in_ok-take_effect.ensures.waiting;
          })
      | else-not-index x ↦ subst (λ (r : Relinking). AreFollowed new w start r (n + 1)) (sym x.relinking-is) (passed_over new w start now n so_far (is ∙ x.if-not-index.false))
    ]

pub returns-clause-linked : goal.returns-clause-linked
returns-clause-linked c =
    let w = c.args.files.now in
    let end' : length w ≤ c.loop-file.file = omega arith in
    all_followed c.args.table.now w c.args.relinking.now c.loop-file.relinking c.loop-file.file c.loop-file.invariant c.args.change.now c.requires.before end'
