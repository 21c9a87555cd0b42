use Rattle.proto_decls.specs.Checks.{statement_diags}
use Rattle.proto_facts.proofs.TreeLemmas.{diags-next}
use Rattle.proto_facts.proofs.walk.+statements.Goals as goal

pub add_all_diags-nodes-preserved : goal.add_all_diags-nodes-preserved
add_all_diags-nodes-preserved t c =
    diags-next (statement_diags c.args.source.text.now) c.args.nodes.now c.nodes.node-index c.node-item.result _ _ _ _ c.nodes-test.true c.node-item.is
    c.in_ok-add_statement_diags.ensures c.in_ok-add_inner_diags.ensures c.nodes.invariant
