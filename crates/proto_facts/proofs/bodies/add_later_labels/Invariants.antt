use Rattle.std.proofs.Common.{◌≡◌, ◌++◌, drop}
use Rattle.std.specs.List.{flat_map}
use Rattle.proto_decls.specs.Checks.{label_diags}
use Rattle.proto_decls.specs.Members.{later_labels}
use Rattle.proto_facts.proofs.bodies.add_later_labels.Given as goal

abbrev pub invariant-items : goal.invariant-items
invariant-items l = l.diags ++ label_diags (flat_map later_labels (drop l.node-index l.items)) ≡ l.fn.diags ++ label_diags (flat_map later_labels l.items)
