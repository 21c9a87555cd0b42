use Rattle.std.proofs.Common.{drop}
use Rattle.proto_facts.specs.Reach.{Rise}
use Rattle.proto_facts.proofs.reach.rise.Given as goal

-- what is left only has to go on
abbrev pub invariant-sorted : goal.invariant-sorted
invariant-sorted l = Rise l.end (drop l.reach-index l.sorted) → Rise 0 l.sorted
