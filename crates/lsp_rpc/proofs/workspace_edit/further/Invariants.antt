use Rattle.std.proofs.Common.{◌≡◌, ◌++◌, drop}
use Rattle.lsp_rpc.specs.WorkspaceEdit.{further}
use Rattle.lsp_rpc.proofs.workspace_edit.further.Given as goal

-- those so far and those that are left are all
abbrev pub invariant-loop-range : goal.invariant-loop-range
invariant-loop-range l = l.ranges.items ++ further l.before (drop l.range-index l.more) ≡ further l.before l.more
