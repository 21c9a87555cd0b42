use Rattle.std.proofs.Common.{◌≡◌, ◌++◌, [], drop, take}
use Rattle.proto_facts.specs.Reach.{met_after}
use Rattle.proto_facts.proofs.overlaps.met_by_pairs.Given as goal

abbrev pub invariant-good : goal.invariant-good
invariant-good l = l.found.items ++ met_after (take l.i l.good) (drop l.i l.good) ≡ met_after [] l.good
