use Rattle.std.proofs.Common.{◌≤◌, ◌-◌, length}
use Rattle.work_check.proofs.ListedShares.{AreConsecutive}
use Rattle.work_check.proofs.shares.fn.list_shares.scope.Given as goal

-- the promises are of all files before `first`
abbrev pub invariant-shares : goal.invariant-shares
invariant-shares g l = record {
  within : l.first ≤ length (let listed = l.listed.now in listed.files);
  promised : AreConsecutive 0 l.first l.listed.now l.handles.items;
}

abbrev pub decreases-shares : goal.decreases-shares
decreases-shares g l = length (let listed = l.listed.now in listed.files) - l.first
