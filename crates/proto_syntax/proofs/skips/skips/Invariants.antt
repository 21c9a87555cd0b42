use Rattle.std.proofs.Common.{◌≡◌, ◌≤◌, length, drop}
use Rattle.proto_syntax.proofs.SkipLemmas.{AreSkips}
use Rattle.proto_syntax.proofs.skips.skips.Given as goal

abbrev pub invariant-places : goal.invariant-places
invariant-places l = record {
  in_range : l.at ≤ length l.ts;
  same_length : length l.found.items ≡ length l.ts;
  skips : AreSkips (drop l.at l.ts) (drop l.at l.found.items);
}

abbrev pub decreases-places : goal.decreases-places
decreases-places l = l.at
