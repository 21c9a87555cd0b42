use Rattle.std.proofs.Common.{◌≡◌, [], rules}
use Rattle.lsp_rpc.specs.WorkspaceEdit.{changes_view}
use Rattle.lsp_rpc.proofs.EditLemmas.{changes-closed, finished}
use Rattle.lsp_rpc.proofs.WritingLemmas.{one, ◌▹◌}
use Rattle.lsp_rpc.proofs.workspace_edit.write_changes.Goals as goal

pub returns : goal.returns
returns c =
    let text = c.args.new_text.now in
    let all = changes_view c.args.changes.now.entries in
    let done : changes_view c.members.uri-iterator ≡ [] = search rules in
    one c.in_ok-begin_object.ensures ▹ (rw (changes-closed text all) at (finished text all (rw done at c.members.invariant) ▹ one c.in_ok-end_object.ensures))
