use Rattle.std.proofs.Common.{◌≡◌, ◌+◌, ◌*◌, ◌++◌, length}
use Rattle.proto_tree.specs.Read.{body_with, finished_tree}
use Rattle.proto_syntax.proofs.read.+blocks.Given as goal

abbrev pub invariant-items_tree-items : goal.invariant-items_tree-items
invariant-items_tree-items l = record {
  nodes : l.nodes ++ (body_with (finished_tree l.reader.blocks l.reader.body) l.reader.body l.rest.tokens.now).nodes ≡ (body_with (finished_tree l.reader.blocks l.reader.body) l.reader.body l.fn.ts.tokens.now).nodes;
  faults : l.faults ++ (body_with (finished_tree l.reader.blocks l.reader.body) l.reader.body l.rest.tokens.now).faults ≡ l.fn.faults ++ (body_with (finished_tree l.reader.blocks l.reader.body) l.reader.body l.fn.ts.tokens.now).faults;
}

abbrev pub decreases-items_tree-items : goal.decreases-items_tree-items
decreases-items_tree-items l = length l.rest.tokens.now

-- a block more counts more than the five functions in turn
abbrev pub decreases-body_tree : goal.decreases-body_tree
decreases-body_tree l = 5 * l.reader.blocks + 4

abbrev pub decreases-items_tree : goal.decreases-items_tree
decreases-items_tree l = 5 * l.reader.blocks + 3

abbrev pub decreases-item_tree : goal.decreases-item_tree
decreases-item_tree l = 5 * l.reader.blocks + 2

abbrev pub decreases-finished_tree : goal.decreases-finished_tree
decreases-finished_tree l = 5 * l.reader.blocks + 1

abbrev pub decreases-form_tree : goal.decreases-form_tree
decreases-form_tree l = 5 * l.reader.blocks + 5
