use Rattle.proto_laws.proofs.BlockEnds.{blocks_end}
use Rattle.proto_laws.proofs.tree_laws.blocks_law.Goals as goal

pub returns : goal.returns
returns c = blocks_end
