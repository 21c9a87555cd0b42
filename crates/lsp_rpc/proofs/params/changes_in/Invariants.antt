use Rattle.std.proofs.Common.{◌≡◌, ◌++◌, map, option_map}
use Rattle.serde_json.specs.View.{items_view}
use Rattle.doc_text.specs.Edits.{change_view}
use Rattle.lsp_rpc.specs.Params.{changes_in}
use Rattle.lsp_rpc.proofs.params.changes_in.Given as goal

-- what was read so far stands before what the rest reads as
abbrev pub invariant-changes : goal.invariant-changes
invariant-changes l =
    changes_in (items_view l.fn.values.items)
    ≡ option_map (λ cs. map change_view l.changes.items ++ cs) (changes_in (items_view l.value-iterator.rest.items))
