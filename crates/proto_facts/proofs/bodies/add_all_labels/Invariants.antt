use Rattle.std.proofs.Common.{◌≡◌, ◌++◌, drop}
use Rattle.std.specs.List.{flat_map}
use Rattle.proto_decls.specs.Checks.{label_diags}
use Rattle.proto_decls.specs.Members.{labels}
use Rattle.proto_facts.proofs.bodies.add_all_labels.Given as goal

abbrev pub invariant-items : goal.invariant-items
invariant-items l = l.diags ++ label_diags (flat_map labels (drop l.node-index l.items)) ≡ l.fn.diags ++ label_diags (flat_map labels l.items)
