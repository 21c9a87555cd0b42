use Rattle.std.proofs.Common.{◌≡◌, ◌++◌, drop}
use Rattle.std.specs.List.{filter_map}
use Rattle.proto_decls.specs.Checks.{kept_free}
use Rattle.proto_facts.proofs.checks.add_kept_free.Given as goal

abbrev pub invariant-members : goal.invariant-members
invariant-members l = l.diags ++ filter_map kept_free (drop l.member-index l.members) ≡ l.fn.diags ++ filter_map kept_free l.members
