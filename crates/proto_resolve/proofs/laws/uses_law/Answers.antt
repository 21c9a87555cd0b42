use Rattle.proto_resolve.proofs.UsesOf.{uses_law}
use Rattle.proto_resolve.proofs.laws.uses_law.Goals as goal

pub returns : goal.returns
returns c = λ files f view i site. uses_law files f view i site
