use Rattle.proto_resolve.proofs.Meets.{says}
use Rattle.proto_resolve.proofs.finding_laws.finding_law.Goals as goal

pub returns : goal.returns
returns c = λ f name t. says c.args.files.now c.view_law.ensures f name t
