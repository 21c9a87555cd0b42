use Rattle.std.proofs.Common.{◌≡◌, ◌++◌, drop}
use Rattle.std.specs.Prelude.{filter}
use Rattle.proto_decls.specs.Checks.{runs_forwards}
use Rattle.proto_facts.proofs.bodies.good_intervals.Given as goal

-- what is there and what is left are all
abbrev pub invariant-loop-interval : goal.invariant-loop-interval
invariant-loop-interval l = l.good.items ++ filter runs_forwards (drop l.interval-index l.found) ≡ filter runs_forwards l.found
