use Rattle.std.proofs.Common.{◌≡◌, filter, get_or, take}
use Rattle.work_index.specs.Workspace.{no_file}
use Rattle.work_check.specs.Listing.{is_wanted}
use Rattle.work_check.proofs.listed.Listed.wanted.Given as goal

-- those so far are found
abbrev pub invariant-loop-file : goal.invariant-loop-file
invariant-loop-file l = let listed = l.self in l.found.items ≡ filter (λ n. is_wanted listed.how (get_or listed.files n no_file).0) (take l.file-index l.files)
