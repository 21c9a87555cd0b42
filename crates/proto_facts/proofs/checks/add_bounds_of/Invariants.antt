use Rattle.std.proofs.Common.{◌≡◌, ◌++◌, drop}
use Rattle.std.specs.List.{filter_map, flat_map}
use Rattle.proto_decls.specs.Checks.{bound_out_of_range}
use Rattle.proto_decls.specs.Members.{bounds}
use Rattle.proto_facts.proofs.checks.add_bounds_of.Given as goal

abbrev pub invariant-each : goal.invariant-each
invariant-each l = l.diags ++ filter_map (bound_out_of_range l.numbering l.text) (flat_map bounds (drop l.range-index l.ranges)) ≡ l.fn.diags ++ filter_map (bound_out_of_range l.numbering l.text) (flat_map bounds l.ranges)
