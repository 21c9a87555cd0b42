use Rattle.std.proofs.Common.{◌≡◌, ◌++◌, drop, length, None}
use Rattle.std.specs.List.{flat_map}
use Rattle.proto_decls.specs.Checks.{statement_diags}
use Rattle.proto_decls.specs.Decls.{decls_in}
use Rattle.proto_decls.specs.declared.fact.DeclKind.TheVariants as kind
use Rattle.proto_decls.specs.Tree.{all_statements}
use Rattle.proto_facts.proofs.walk.add_statements.Given as goal

-- what is found and what is left are all
abbrev pub invariant-nodes : goal.invariant-nodes
invariant-nodes l = record {
  decls : l.decls ++ decls_in l.source.text.now (drop l.node-index l.nodes) kind.Field l.scope None (length l.decls) ≡ l.fn.decls ++ decls_in l.source.text.now l.nodes kind.Field l.scope None (length l.fn.decls);
  diags : l.diags ++ flat_map (statement_diags l.source.text.now) (all_statements (drop l.node-index l.nodes)) ≡ l.fn.diags ++ flat_map (statement_diags l.source.text.now) (all_statements l.nodes);
}
