use Rattle.std.proofs.Common.{◌≡◌, ◌≤◌, ◌-◌, ◌++◌, drop, length, map}
use Rattle.work_index.specs.Workspace.{texts_of}
use Rattle.work_meaning.specs.Edited.{edit_view}
use Rattle.lsp_renames.specs.Cutting.{edits_of}
use Rattle.lsp_renames.proofs.edited.edited_texts.Given as goal

-- those so far and those of the places that are left are all
abbrev pub invariant-places : goal.invariant-places
invariant-places l = record {
  within : l.done ≤ length l.places;
  whole : map edit_view l.edits.items ++ edits_of l.name (let a = l.analysis in texts_of a.sources) (drop l.done l.places) ≡ edits_of l.name (let a = l.analysis in texts_of a.sources) l.places;
}

abbrev pub decreases-places : goal.decreases-places
decreases-places l = length l.places - l.done
