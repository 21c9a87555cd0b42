use Rattle.std.proofs.Common.{◌∙◌, map, subst, sym}
use Rattle.std.specs.Prelude.{option_map, string_bytes}
use Rattle.work_index.specs.Workspace.{workspace_in}
use Rattle.work_meaning.specs.Edited.{edit_view, with_texts}
use Rattle.work_meaning.specs.Quiet.{HasTexts}
use Rattle.work_index.proofs.Known.{paths-long}
use Rattle.work_meaning.proofs.Quiet.{has-texts}
use Rattle.work_meaning.proofs.edited.edits_keep_meaning.Goals as goal

pub returns-in-Some : goal.returns-in-Some
returns-in-Some c =
    let a = c.args.earlier.now in
    let edits = map edit_view c.args.edits.items in
    let after = with_texts edits (workspace_in a) in
    let has = has-texts _ edits (workspace_in a) c.file_count.result (c.file_count.ensures ∙ paths-long a c.known.ensures) c.in_ok-texts.ensures in
    rw c.in-Some.is at c.in_ok-keep.ensures.keep after (subst (λ ts. HasTexts (map (option_map string_bytes) ts) (workspace_in a) after) (sym c.as_slice.ensures.value) has)

pub returns-in-Some-2 : goal.returns-in-Some-2
returns-in-Some-2 c =
    let a = c.args.earlier.now in
    let edits = map edit_view c.args.edits.items in
    let after = with_texts edits (workspace_in a) in
    let has = has-texts _ edits (workspace_in a) c.file_count.result (c.file_count.ensures ∙ paths-long a c.known.ensures) c.in_ok-texts.ensures in
    rw c.in-Some-2.is at c.in_ok-keep-2.ensures.keep after (subst (λ ts. HasTexts (map (option_map string_bytes) ts) (workspace_in a) after) (sym c.as_slice-2.ensures.value) has)
