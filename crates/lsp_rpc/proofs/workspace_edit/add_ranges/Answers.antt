use Rattle.std.proofs.Common.{◌≡◌, ◌++◌, rules, string_bytes}
use Rattle.std.specs.Map.{lookup, remove_entry}
use Rattle.lsp_rpc.specs.WorkspaceEdit.{further}
use Rattle.lsp_rpc.proofs.EditLemmas.{is_at_text, items_in, added}
use Rattle.lsp_rpc.proofs.workspace_edit.add_ranges.Goals as goal
use Rattle.lsp_rpc.proofs.workspace_edit.add_ranges.Goals.{in-Some, in-None}

pub returns : goal.returns
returns c =
    let d = c.args.document in
    let es = c.args.changes.now.entries in
    let uri = string_bytes d.uri in
    let taken : c.remove.new.self.entries ≡ remove_entry (is_at_text uri) es = search rules in
    let had : c.match-remove.ranges.items ≡ items_in (lookup (is_at_text uri) es) = elim c.match-remove.branch [ in-Some w ↦ search rules | in-None w ↦ search rules ] in
    let before = items_in (lookup (is_at_text uri) es) in
    let whole : c.extend_from_slice.new.self.items ≡ before ++ further before d.ranges.items = search rules in
    added es c.remove.new.self.entries c.insert.new.self.entries d c.extend_from_slice.new.self taken whole (search rules)
