use Rattle.std.proofs.Common.{◌≡◌, ◌++◌, drop}
use Rattle.std.specs.List.{filter_map}
use Rattle.proto_decls.specs.Checks.{member_out_of_range}
use Rattle.proto_facts.proofs.checks.add_out_of_range.Given as goal

abbrev pub invariant-members : goal.invariant-members
invariant-members l = l.diags ++ filter_map (member_out_of_range l.numbering) (drop l.member-index l.members) ≡ l.fn.diags ++ filter_map (member_out_of_range l.numbering) l.members
