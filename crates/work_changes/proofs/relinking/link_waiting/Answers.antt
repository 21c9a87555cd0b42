use Rattle.std.proofs.Common.{◌≡◌, ◌<◌, ◌≤◌, ◌+◌, true, length, get_or, set, sym, ap, subst, ◌∙◌, arith}
use Rattle.std.proofs.lemmas.List.{get_or_default}
use Rattle.work_index.specs.Workspace.{diagnostics_of, no_file, resolution_of}
use Rattle.work_index.specs.declared.analysis.Resolutions.{Resolutions}
use Rattle.work_changes.proofs.LinkedAgain.{AreLinkedUpTo, all_diagnostics, all_links, one_linked, one_passed}
use Rattle.work_changes.proofs.relinking.link_waiting.Goals as goal
use Rattle.work_changes.proofs.relinking.link_waiting.Goals.{then-index+in_ok-link_again, else-index}

pub loop-file-preserved : goal.loop-file-preserved
loop-file-preserved c =
    let w = c.args.files.now in
    let files = c.args.table.now in
    let waiting = c.args.relinking.waiting.items in
    let found = c.loop-file.resolutions in
    let n = c.loop-file.file in
    let so_far = c.loop-file.invariant in
    let linked = c.requires.linked in
    let places = linked.places in
    let there : n < length w = c.loop-file-test.true in
    let is : get_or waiting n true ≡ c.index.result.now = get_or_default waiting n true c.index.result.now (omega (arith, there, places.waiting)) ∙ sym c.index.ensures in
    elim c.if-index.branch [
      | then-index+in_ok-link_again x ↦
          let source = c.index-files-file.result in
          let at : get_or w n no_file ≡ source = get_or_default w n no_file source there ∙ sym c.index-files-file.is in
          one_linked files w waiting found n so_far c.requires.table there c.if-index.resolutions
          (ap (λ (r : Resolutions). r.links.items) x.resolutions-is ∙ x.in_ok-link_again.ensures.links w c.requires.table ∙ ap (λ file. set found.links.items n (resolution_of w (n, file))) (sym at))
          (ap (λ (r : Resolutions). r.diagnostics.items) x.resolutions-is ∙ x.in_ok-link_again.ensures.diagnostics w c.requires.table ∙ ap (λ file. set found.diagnostics.items n (diagnostics_of w (n, file))) (sym at))
      | else-index x ↦ subst (λ (r : Resolutions). AreLinkedUpTo files w waiting r (n + 1)) (sym x.resolutions-is) (one_passed files w waiting found n so_far (is ∙ x.if-index.false))
    ]

pub returns-clause-links : goal.returns-clause-links
returns-clause-links c =
    let w = c.args.files.now in
    let end' : length w ≤ c.loop-file.file = omega arith in
    all_links c.args.table.now w c.args.relinking.waiting.items c.loop-file.resolutions c.loop-file.file c.loop-file.invariant c.requires.table end'

pub returns-clause-diagnostics : goal.returns-clause-diagnostics
returns-clause-diagnostics c =
    let w = c.args.files.now in
    let end' : length w ≤ c.loop-file.file = omega arith in
    all_diagnostics c.args.table.now w c.args.relinking.waiting.items c.loop-file.resolutions c.loop-file.file c.loop-file.invariant c.requires.table end'
