use Rattle.std.proofs.Common.{sym, ◌∙◌, arith}
use Rattle.proto_syntax.proofs.ReadLemmas.{nodes-end, faults-end, body_tree-is, finished_tree-none, finished_tree-some}
use Rattle.proto_syntax.proofs.read.+blocks.Goals as goal

pub items_tree-returns-clause-nodes : goal.items_tree-returns-clause-nodes
items_tree-returns-clause-nodes t c = rw (body_tree-is c.args.reader.blocks c.args.reader.body c.args.ts.tokens.now) (nodes-end _ _ _ _ _ (sym c.is_empty.ensures ∙ c.items-test.false) c.items.invariant.nodes)

pub items_tree-returns-clause-faults : goal.items_tree-returns-clause-faults
items_tree-returns-clause-faults t c = rw (body_tree-is c.args.reader.blocks c.args.reader.body c.args.ts.tokens.now) (faults-end _ _ _ _ _ (sym c.is_empty.ensures ∙ c.items-test.false) c.items.invariant.faults)

pub finished_tree-returns-then-reader-eq0-clause-nodes : goal.finished_tree-returns-then-reader-eq0-clause-nodes
finished_tree-returns-then-reader-eq0-clause-nodes t c = rw (finished_tree-none c.args.reader.blocks c.args.reader.body c.args.item.tokens.now (omega arith)) c.deepest_tree.ensures.nodes

pub finished_tree-returns-then-reader-eq0-clause-faults : goal.finished_tree-returns-then-reader-eq0-clause-faults
finished_tree-returns-then-reader-eq0-clause-faults t c = rw (finished_tree-none c.args.reader.blocks c.args.reader.body c.args.item.tokens.now (omega arith)) c.deepest_tree.ensures.faults

pub finished_tree-returns-else-reader-eq0-clause-nodes : goal.finished_tree-returns-else-reader-eq0-clause-nodes
finished_tree-returns-else-reader-eq0-clause-nodes t c = rw (finished_tree-some c.args.reader.blocks c.args.reader.body c.args.item.tokens.now (omega arith)) c.form_tree.ensures.nodes

pub finished_tree-returns-else-reader-eq0-clause-faults : goal.finished_tree-returns-else-reader-eq0-clause-faults
finished_tree-returns-else-reader-eq0-clause-faults t c = rw (finished_tree-some c.args.reader.blocks c.args.reader.body c.args.item.tokens.now (omega arith)) c.form_tree.ensures.faults
