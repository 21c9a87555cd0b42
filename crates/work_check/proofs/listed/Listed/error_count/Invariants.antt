use Rattle.work_index.specs.Workspace.{analysis}
use Rattle.work_check.specs.Listing.{file_errors}
use Rattle.work_check.proofs.CountLemmas.{AreCounted}
use Rattle.work_check.proofs.listed.Listed.error_count.Given as goal

abbrev pub invariant-loop-number : goal.invariant-loop-number
invariant-loop-number l = let listed = l.self in AreCounted (file_errors listed.how (analysis listed.files)) l.count l.number listed.files
