use Rattle.lsp_rpc.proofs.WritingLemmas.{one, ◌▹◌}
use Rattle.lsp_rpc.proofs.workspace_edit.write_workspace_edit.Goals as goal

pub returns : goal.returns
returns c = one c.in_ok-begin_object.ensures ▹ one c.in_ok-key.ensures ▹ (rw c.in_ok-changes.ensures at c.in_ok-write_changes.ensures) ▹ one c.in_ok-end_object.ensures
