use Rattle.std.proofs.Common.{◌≡◌, take}
use Rattle.work_index.proofs.analysis.copy_links.Given as goal

-- those so far are equal
abbrev pub invariant-loop-links : goal.invariant-loop-links
invariant-loop-links l = l.copies.items ≡ take l.links-index l.all
