use Rattle.std.proofs.Common.{◌∙◌, List, arith, length, map, ap, subst, sym}
use Rattle.std.proofs.lemmas.Result.{IfOk-weaker}
use Rattle.work_index.specs.AnalysisParts.{AreParts}
use Rattle.work_index.specs.Workspace.{Workspace, workspace_in}
use Rattle.work_meaning.specs.declared.edited.EditedText.{EditedText}
use Rattle.work_meaning.specs.Edited.{edit_view, with_texts}
use Rattle.work_meaning.proofs.OtherTexts.{as_many_files, before_edits, copied_files}
use Rattle.work_meaning.proofs.Quiet.{has-others, says-else}
use Rattle.work_meaning.proofs.edited.kept_with.Goals as goal

pub edit_all-requires : goal.edit_all-requires
edit_all-requires c = λ k d lt.
    let a = c.args.earlier.now in
    let parts = c.into_parts-table.result in
    let files : Workspace = parts.files.items in
    let copied = copied_files a c.in_ok-copy.copy parts c.in_ok-copy.ensures c.into_parts-table.ensures.known c.into_parts-table.ensures.parts in
    omega (arith, c.in_ok-edits.ensures.within k d lt, c.requires, copied.1)

pub bring_up-requires : goal.bring_up-requires
bring_up-requires c =
    let a = c.args.earlier.now in
    let parts = c.into_parts-table.result in
    let files : Workspace = parts.files.items in
    let copied = copied_files a c.in_ok-copy.copy parts c.in_ok-copy.ensures c.into_parts-table.ensures.known c.into_parts-table.ensures.parts in
    let edits : List EditedText = c.in_ok-edits.edits.items in
    let of : AreParts files parts = subst (λ (w : Workspace). AreParts w parts) (sym c.into_parts-table.ensures.parts.files) c.into_parts-table.ensures.parts in
    before_edits (record { table = parts.table; resolutions = parts.resolutions }) files c.as_slice-3.result.now edits c.as_slice-2.result.now (λ k d lt. omega (arith, c.in_ok-edits.ensures.within k d lt, c.requires, copied.1))
    (c.as_slice-2.ensures.value ∙ c.in_ok-changed.ensures ∙ ap (map (λ (e : EditedText). e.file)) c.as_slice.ensures.value) (c.as_slice-3.ensures.value ∙ c.in_ok-edit_all.ensures) of.table of.links of.diagnostics

pub keep_meaning-requires-clause-as_many : goal.keep_meaning-requires-clause-as_many
keep_meaning-requires-clause-as_many c =
    let a = c.args.earlier.now in
    let parts = c.into_parts-table.result in
    let files : Workspace = parts.files.items in
    let copied = copied_files a c.in_ok-copy.copy parts c.in_ok-copy.ensures c.into_parts-table.ensures.known c.into_parts-table.ensures.parts in
    let edits : List EditedText = c.in_ok-edits.edits.items in
    omega (arith, copied.1, as_many_files (map edit_view edits) files, ap length (c.as_slice-4.ensures.value ∙ c.in_ok-edit_all.ensures))

pub keep_meaning-requires-clause-texts : goal.keep_meaning-requires-clause-texts
keep_meaning-requires-clause-texts c =
    let a = c.args.earlier.now in
    let parts = c.into_parts-table.result in
    let files : Workspace = parts.files.items in
    let copied = copied_files a c.in_ok-copy.copy parts c.in_ok-copy.ensures c.into_parts-table.ensures.known c.into_parts-table.ensures.parts in
    let edits : List EditedText = c.in_ok-edits.edits.items in
    omega (arith, c.requires, copied.1, as_many_files (map edit_view edits) files, ap length (c.as_slice-4.ensures.value ∙ c.in_ok-edit_all.ensures))

pub returns-clause-keep : goal.returns-clause-keep
returns-clause-keep c = λ w has.
    let a = c.args.earlier.now in
    let parts = c.into_parts-table.result in
    let files : Workspace = parts.files.items in
    let copied = copied_files a c.in_ok-copy.copy parts c.in_ok-copy.ensures c.into_parts-table.ensures.known c.into_parts-table.ensures.parts in
    let edits : List EditedText = c.in_ok-edits.edits.items in
    c.keep_meaning.ensures.keep w (has-others c.args.own _ (map edit_view edits) (workspace_in a) c.as_slice-4.result.now w (c.as_slice-4.ensures.value ∙ c.in_ok-edit_all.ensures ∙ ap (with_texts (map edit_view edits)) copied.0)
    (λ n t lt. c.in_ok-edits.ensures.texts n t (omega (arith, lt, ap length copied.0, copied.1, c.requires))) has)

pub returns-clause-other : goal.returns-clause-other
returns-clause-other c =
    let a = c.args.earlier.now in
    let parts = c.into_parts-table.result in
    let files : Workspace = parts.files.items in
    let copied = copied_files a c.in_ok-copy.copy parts c.in_ok-copy.ensures c.into_parts-table.ensures.known c.into_parts-table.ensures.parts in
    let edits : List EditedText = c.in_ok-edits.edits.items in
    IfOk-weaker c.keep_meaning.result _ _
    (λ found says none. says-else c.args.own _ (map edit_view edits) (workspace_in a) c.as_slice-4.result.now (c.as_slice-4.ensures.value ∙ c.in_ok-edit_all.ensures ∙ ap (with_texts (map edit_view edits)) copied.0)
    (λ n t lt. c.in_ok-edits.ensures.texts n t (omega (arith, lt, ap length copied.0, copied.1, c.requires))) (says none))
    c.keep_meaning.ensures.other
