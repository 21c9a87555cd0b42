use Rattle.std.proofs.Common.{◌≡◌, ◌++◌, List, drop}
use Rattle.std.specs.List.{filter_map}
use Rattle.proto_decls.specs.declared.part.ReservedName.{ReservedName}
use Rattle.proto_decls.specs.Checks.{name_reserved}
use Rattle.proto_facts.specs.Seen.{AreNames}
use Rattle.proto_facts.proofs.checks.add_name_reserved.Given as goal

abbrev pub invariant-members : goal.invariant-members
invariant-members l = (names : List ReservedName) → AreNames names l.reserved
    → l.diags ++ filter_map (name_reserved l.text names) (drop l.member-index l.members) ≡ l.fn.diags ++ filter_map (name_reserved l.text names) l.members
