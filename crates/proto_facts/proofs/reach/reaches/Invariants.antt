use Rattle.std.proofs.Common.{◌≡◌, ◌++◌, drop, map}
use Rattle.proto_facts.specs.Reach.{reach_of}
use Rattle.proto_facts.proofs.reach.reaches.Given as goal

-- what is there and what is left are all
abbrev pub invariant-loop-interval : goal.invariant-loop-interval
invariant-loop-interval l = l.found.items ++ map reach_of (drop l.interval-index l.good) ≡ map reach_of l.good
