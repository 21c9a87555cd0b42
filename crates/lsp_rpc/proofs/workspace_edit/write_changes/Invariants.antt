use Rattle.lsp_rpc.specs.WorkspaceEdit.{changes_view}
use Rattle.lsp_rpc.proofs.EditLemmas.{Writing}
use Rattle.lsp_rpc.proofs.workspace_edit.write_changes.Given as goal

-- the changes so far are written
abbrev pub invariant-members : goal.invariant-members
invariant-members l = Writing l.new_text l.initial.out l.out (changes_view l.uri-iterator) (changes_view l.changes.entries)
