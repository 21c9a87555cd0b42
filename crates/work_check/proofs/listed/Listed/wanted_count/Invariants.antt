use Rattle.std.proofs.Common.{◌≡◌, take}
use Rattle.std.specs.List.{count_by}
use Rattle.work_check.specs.Listing.{is_wanted}
use Rattle.work_check.proofs.listed.Listed.wanted_count.Given as goal

-- those so far are counted
abbrev pub invariant-loop-number : goal.invariant-loop-number
invariant-loop-number l = let listed = l.self in l.count ≡ count_by (λ f. is_wanted listed.how f.0) (take l.number listed.files)
