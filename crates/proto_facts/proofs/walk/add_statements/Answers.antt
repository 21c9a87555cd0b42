use Rattle.proto_decls.specs.Checks.{statement_diags}
use Rattle.proto_facts.proofs.TreeLemmas.{decls-next, diags-next}
use Rattle.proto_facts.proofs.walk.add_statements.Goals as goal

pub nodes-preserved : goal.nodes-preserved
nodes-preserved c = record {
  decls = decls-next c.args.source.text.now c.args.nodes.now c.nodes.node-index c.node-item.result _ _ _ _ _ _ c.nodes-test.true c.node-item.is c.in_ok-add_decl.ensures c.nodes.invariant.decls;
  diags =
      diags-next (statement_diags c.args.source.text.now) c.args.nodes.now c.nodes.node-index c.node-item.result _ _ _ _ c.nodes-test.true c.node-item.is
      c.in_ok-add_statement_diags.ensures c.in_ok-add_inner_diags.ensures c.nodes.invariant.diags;
}
