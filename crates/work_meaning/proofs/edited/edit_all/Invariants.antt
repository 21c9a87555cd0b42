use Rattle.std.proofs.Common.{◌≡◌, ◌<◌, length, map}
use Rattle.std.specs.Prelude.{All}
use Rattle.work_meaning.specs.Edited.{edit_view, with_texts}
use Rattle.work_meaning.proofs.edited.edit_all.Given as goal

-- the texts that are left, put over those that were put
abbrev pub invariant-edits : goal.invariant-edits
invariant-edits l = record {
  within : All (λ e. e.file < length l.files.items) l.edits.items;
  left : with_texts (map edit_view l.edits.items) l.files.items ≡ with_texts (map edit_view l.fn.edits.items) l.fn.files.items;
}

abbrev pub decreases-edits : goal.decreases-edits
decreases-edits l = length l.edits.items
