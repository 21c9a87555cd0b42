use Rattle.std.proofs.Common.{length, ◌-◌}
use Rattle.proto_syntax.proofs.SkipLemmas.{IsInside}
use Rattle.proto_syntax.proofs.skips.skip.Given as goal

abbrev pub invariant-places : goal.invariant-places
invariant-places l = IsInside l.ts l.end l.depth

abbrev pub decreases-places : goal.decreases-places
decreases-places l = length l.ts - l.end
