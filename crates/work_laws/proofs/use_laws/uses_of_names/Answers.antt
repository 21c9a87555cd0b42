use Rattle.work_laws.proofs.Uses.{names-have-uses}
use Rattle.work_laws.proofs.use_laws.uses_of_names.Goals as goal

pub returns : goal.returns
returns c = names-have-uses c.uses_law.ensures c.names_are_identifiers.ensures.names c.names_nest.ensures
