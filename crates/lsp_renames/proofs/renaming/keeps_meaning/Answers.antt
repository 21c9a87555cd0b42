use Rattle.std.proofs.Common.{◌↔◌, subst}
use Rattle.std.specs.Prelude.{IfOk, IsTrue}
use Rattle.work_index.specs.Workspace.{AnalysisData}
use Rattle.work_meaning.specs.Bindings.{SameMeaning}
use Rattle.lsp_renames.proofs.AfterEdits.{analysed-after}
use Rattle.lsp_renames.proofs.WithTexts.{edits-there}
use Rattle.lsp_renames.proofs.renaming.keeps_meaning.Goals as goal

pub edits_keep_meaning-requires : goal.edits_keep_meaning-requires
edits_keep_meaning-requires c = edits-there c.args.analysis.now c.args.new_name.now c.args.places.now c.in_ok-edits.edits.items c.requires c.in_ok-edits.ensures

pub returns : goal.returns
returns c =
    let a = c.args.analysis.now in
    subst (λ (after : AnalysisData). IfOk c.edits_keep_meaning.result (λ keep. IsTrue keep ↔ SameMeaning a after))
    (analysed-after a c.args.places.now c.args.new_name.now c.in_ok-edits.edits.items c.requires c.in_ok-edits.ensures) c.edits_keep_meaning.ensures
