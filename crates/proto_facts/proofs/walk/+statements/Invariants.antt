use Rattle.std.proofs.Common.{◌≡◌, ◌++◌, drop}
use Rattle.std.specs.List.{flat_map}
use Rattle.proto_decls.specs.Checks.{statement_diags}
use Rattle.proto_decls.specs.Tree.{all_statements}
use Rattle.proto_facts.proofs.walk.+statements.Given as goal

abbrev pub invariant-add_all_diags-nodes : goal.invariant-add_all_diags-nodes
invariant-add_all_diags-nodes l =
    l.diags ++ flat_map (statement_diags l.source.text.now) (all_statements (drop l.node-index l.nodes)) ≡ l.fn.diags ++ flat_map (statement_diags l.source.text.now) (all_statements l.nodes)
