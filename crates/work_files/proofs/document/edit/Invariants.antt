use Rattle.std.proofs.Common.{◌≡◌, map}
use Rattle.doc_text.specs.Edits.{change_view}
use Rattle.work_files.specs.Files.{edited_all}
use Rattle.work_files.proofs.document.edit.Given as goal

-- the changes that are left make of the text what all make of the first one
abbrev pub invariant-changes : goal.invariant-changes
invariant-changes l = edited_all l.fn.encoding (map change_view l.change-iterator.rest.items) l.text ≡ edited_all l.fn.encoding (map change_view l.fn.changes.items) l.initial.text
