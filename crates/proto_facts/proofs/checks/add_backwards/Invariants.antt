use Rattle.std.proofs.Common.{◌≡◌, ◌++◌, drop}
use Rattle.std.specs.List.{filter_map}
use Rattle.proto_decls.specs.Checks.{backwards}
use Rattle.proto_facts.proofs.checks.add_backwards.Given as goal

abbrev pub invariant-intervals : goal.invariant-intervals
invariant-intervals l = l.diags ++ filter_map backwards (drop l.interval-index l.intervals) ≡ l.fn.diags ++ filter_map backwards l.intervals
