use Rattle.proto_laws.proofs.IdentifierLaws.{names-are_identifiers, packages-are_identifiers}
use Rattle.proto_laws.proofs.identifier_laws.names_are_identifiers.Goals as goal

pub returns-clause-names : goal.returns-clause-names
returns-clause-names c = names-are_identifiers c.size_law.ensures.empty c.identifiers_law.ensures

pub returns-clause-packages : goal.returns-clause-packages
returns-clause-packages c = packages-are_identifiers (names-are_identifiers c.size_law.ensures.empty c.identifiers_law.ensures)
