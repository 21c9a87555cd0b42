use Rattle.proto_laws.proofs.Nesting.{names-nest}
use Rattle.proto_laws.proofs.fact_laws.names_nest.Goals as goal

pub returns : goal.returns
returns c = names-nest c.size_law.ensures.empty c.identifiers_law.ensures c.other_names_law.ensures.identifiers
