use Rattle.std.proofs.Common.{take, map}
use Rattle.lsp_rpc.specs.WorkspaceEdit.{edit_value}
use Rattle.lsp_rpc.specs.Writing.{Appends, values_tokens}
use Rattle.lsp_rpc.proofs.workspace_edit.write_edits.Given as goal

-- those so far are written
abbrev pub invariant-items : goal.invariant-items
invariant-items l = Appends l.initial.out (values_tokens (map (edit_value l.new_text) (take l.range-index l.ranges))) l.out
