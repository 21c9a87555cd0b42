use Rattle.std.proofs.Common.{◌≡◌, ◌++◌, drop}
use Rattle.std.specs.List.{filter_map}
use Rattle.proto_decls.specs.Checks.{number_reserved}
use Rattle.proto_facts.proofs.reach.add_number_in.Given as goal

abbrev pub invariant-asked : goal.invariant-asked
invariant-asked l = l.diags ++ filter_map (number_reserved l.good) (drop l.member-index l.members) ≡ l.fn.diags ++ filter_map (number_reserved l.good) l.members
