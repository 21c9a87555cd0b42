use Rattle.proto_laws.proofs.NameScopes.{names-stand, no-package, packages-are}
use Rattle.proto_laws.proofs.name_laws.names_stand_in_scopes.Goals as goal

pub returns-clause-names : goal.returns-clause-names
returns-clause-names c = names-stand

pub returns-clause-no_package : goal.returns-clause-no_package
returns-clause-no_package c = no-package

pub returns-clause-packages : goal.returns-clause-packages
returns-clause-packages c = packages-are
