use Rattle.std.proofs.Common.{◌≡◌, ◌++◌, drop}
use Rattle.proto_decls.specs.Checks.{bound_diags}
use Rattle.proto_facts.proofs.checks.add_bounds.Given as goal

abbrev pub invariant-items : goal.invariant-items
invariant-items l = l.diags ++ bound_diags l.numbering l.text (drop l.node-index l.items) ≡ l.fn.diags ++ bound_diags l.numbering l.text l.items
