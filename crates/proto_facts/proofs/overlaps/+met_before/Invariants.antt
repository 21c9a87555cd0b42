use Rattle.std.proofs.Common.{length}
use Rattle.proto_facts.proofs.overlaps.+met_before.Given as goal

abbrev pub decreases-met_before : goal.decreases-met_before
decreases-met_before l = length l.good.now
