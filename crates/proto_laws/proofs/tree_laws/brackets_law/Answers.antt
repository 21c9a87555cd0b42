use Rattle.proto_laws.proofs.BracketsLaw.{balanced_is, is_balanced_of}
use Rattle.proto_laws.proofs.tree_laws.brackets_law.Goals as goal

pub returns : goal.returns
returns c = λ ts. (balanced_is ts, is_balanced_of ts)
