use Rattle.std.proofs.Common.{◌≡◌, take, map}
use Rattle.std.proofs.lemmas.List.{take_all}
use Rattle.lsp_rpc.specs.WorkspaceEdit.{edit_value}
use Rattle.lsp_rpc.proofs.ListLemmas.{values-closed}
use Rattle.lsp_rpc.proofs.WritingLemmas.{one, ◌▹◌}
use Rattle.lsp_rpc.proofs.workspace_edit.write_edits.Goals as goal

pub returns : goal.returns
returns c =
    let ranges = c.args.ranges.now in
    let all : take c.items.range-index ranges ≡ ranges = take_all _ _ c.items-test.false in
    one c.in_ok-begin_array.ensures ▹ (rw (all, values-closed (map (edit_value c.args.new_text.now) ranges)) at (c.items.invariant ▹ one c.in_ok-end_array.ensures))
