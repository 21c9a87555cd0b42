use Rattle.proto_resolve.proofs.DiagnosticsSaid.{said}
use Rattle.proto_resolve.proofs.diagnostic_laws.diagnostic_law.Goals as goal

pub returns : goal.returns
returns c = λ f sites x. said c.args.files.now c.view_law.ensures f sites x
