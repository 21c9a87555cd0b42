use Rattle.std.proofs.Common.{◌≡◌, map}
use Rattle.work_shares.proofs.in_shares.fn.index_all.scope.Given as goal

-- each handle's promise is of the share at its place
abbrev pub invariant-loop-share : goal.invariant-loop-share
invariant-loop-share g l = map (λ h. h.promise.share.value) l.handles.items ≡ map (λ s. s) l.yielded
