use Rattle.std.proofs.Common.{◌≡◌, ◌++◌}
use Rattle.work_files.specs.View.{files_view}
use Rattle.work_check.specs.Listing.{file_roots}
use Rattle.work_check.proofs.diagnosing.roots_of.Given as goal

-- the roots of some files are there, and those of the others are left
abbrev pub invariant-loop-path : goal.invariant-loop-path
invariant-loop-path l = file_roots l.files ≡ l.roots.items ++ file_roots (files_view l.path-iterator)
