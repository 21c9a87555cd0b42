use Rattle.std.proofs.Common.{◌≡◌, ◌++◌, drop}
use Rattle.proto_decls.specs.Checks.{label_diags}
use Rattle.proto_facts.proofs.checks.add_labels.Given as goal

abbrev pub invariant-labels : goal.invariant-labels
invariant-labels l = l.diags ++ label_diags (drop l.label-index l.labels) ≡ l.fn.diags ++ label_diags l.labels
