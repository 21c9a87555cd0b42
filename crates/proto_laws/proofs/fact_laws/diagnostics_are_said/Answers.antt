use Rattle.proto_laws.proofs.FileSaid.{diagnostics-are_said}
use Rattle.proto_laws.proofs.fact_laws.diagnostics_are_said.Goals as goal

pub returns : goal.returns
returns c = diagnostics-are_said
