use Rattle.std.proofs.Math.Logic.{∥∥₁_elim}
use base.Stored.{Coded-set}
use Rattle.proto_tree.specs.contracts.node.FileTree.{the_row}
use Rattle.work_index.proofs.file_work.tree_in.Goals as goal

pub returns : goal.returns
returns c = ∥∥₁_elim c.out.ensures (Coded-set the_row.coded _ _) (λ stands. stands.tree_is)
