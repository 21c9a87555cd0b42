use Rattle.std.proofs.Common.{◌≡◌, map}
use Rattle.work_shares.proofs.in_shares.fn.link_all.scope.Given as goal

-- each handle's promise is of the share at its place, and of the table
abbrev pub invariant-loop-share : goal.invariant-loop-share
invariant-loop-share g l = record {
  shares : map (λ h. h.promise.share.value) l.handles.items ≡ map (λ s. s) l.yielded;
  tables : map (λ h. h.promise.table.value) l.handles.items ≡ map (λ s. l.table.now) l.yielded;
}
