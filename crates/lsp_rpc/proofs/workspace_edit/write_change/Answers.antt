use Rattle.lsp_rpc.proofs.WritingLemmas.{one, ◌▹◌}
use Rattle.lsp_rpc.proofs.workspace_edit.write_change.Goals as goal

pub returns : goal.returns
returns c = one c.in_ok-key.ensures ▹ c.in_ok-write_edits.ensures
