use Rattle.lsp_rpc.proofs.WritingLemmas.{one, ◌▹◌}
use Rattle.lsp_rpc.proofs.workspace.write_workspace.Goals as goal

pub returns : goal.returns
returns c = one c.in_ok-begin_object.ensures ▹ one c.in_ok-key.ensures ▹ c.in_ok-write_documents.ensures ▹ one c.in_ok-end_object.ensures
