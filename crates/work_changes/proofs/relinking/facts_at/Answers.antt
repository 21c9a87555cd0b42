use Rattle.std.proofs.Common.{sym, ap, ◌∙◌}
use Rattle.std.proofs.lemmas.List.{get_or_default}
use Rattle.work_index.specs.Workspace.{SourceAt, Workspace, no_file, source_facts}
use Rattle.work_changes.proofs.LinkedAgain.{facts_in}
use Rattle.work_changes.proofs.relinking.facts_at.Goals as goal

pub returns : goal.returns
returns c =
    let files : Workspace = c.args.files.now in
    let n = c.args.file in
    let source = c.index-files-file.result in
    c.facts.ensures ∙ ap (λ (file : SourceAt). source_facts file.1) (c.index-files-file.is ∙ sym (get_or_default files n no_file source c.requires)) ∙ sym (facts_in files n c.requires)
