use Rattle.lsp_rpc.proofs.EditTexts as texts
use Rattle.lsp_rpc.proofs.laws.workspace_edit_text.Goals as goal

pub returns : goal.returns
returns c = texts.workspace_edit_text
