use Rattle.proto_laws.proofs.OtherTrees.{has_tree, one_tree}
use Rattle.proto_laws.proofs.tree_laws.other_trees_law.Goals as goal

pub returns-clause-exists : goal.returns-clause-exists
returns-clause-exists c = has_tree c.one_token_list.ensures.exist

pub returns-clause-only : goal.returns-clause-only
returns-clause-only c = one_tree c.one_token_list.ensures.unique
