use Rattle.std.proofs.Common.{◌≡◌, ◌++◌, drop}
use Rattle.proto_resolve.proofs.uses.copy_uses.Given as goal

-- those so far and those that are left are all
abbrev pub invariant-loop-found : goal.invariant-loop-found
invariant-loop-found l = l.copies ++ drop l.found-index l.uses ≡ l.uses
