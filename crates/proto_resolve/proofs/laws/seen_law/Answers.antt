use Rattle.proto_resolve.proofs.SeenAlone.{seen_law}
use Rattle.proto_resolve.proofs.laws.seen_law.Goals as goal

pub returns : goal.returns
returns c = λ old new f within same text tree. seen_law old new f within same text tree
