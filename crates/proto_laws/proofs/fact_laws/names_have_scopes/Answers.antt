use Rattle.proto_laws.proofs.HaveScopes.{names-have_scopes}
use Rattle.proto_laws.proofs.fact_laws.names_have_scopes.Goals as goal

pub returns : goal.returns
returns c = names-have_scopes
