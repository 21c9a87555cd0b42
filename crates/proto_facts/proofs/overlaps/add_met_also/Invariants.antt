use Rattle.std.proofs.Common.{◌≡◌, ◌++◌, drop}
use Rattle.proto_facts.specs.Reach.{met_also}
use Rattle.proto_facts.proofs.overlaps.add_met_also.Given as goal

abbrev pub invariant-good : goal.invariant-good
invariant-good l = l.found.items ++ met_also l.before (drop l.i l.good) (drop l.i l.met) ≡ l.fn.found.items ++ met_also l.before l.good l.met
