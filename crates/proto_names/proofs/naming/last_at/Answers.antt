use Rattle.std.proofs.Common.{◌∙◌}
use Rattle.proto_names.specs.Files.{name_at}
use Rattle.proto_names.proofs.Apart.{last_again, no_scope}
use Rattle.proto_names.proofs.naming.last_at.Goals as goal

pub returns-clause-scope : goal.returns-clause-scope
returns-clause-scope c = no_scope (name_at c.args.files.now c.args.decl)

pub returns-clause-last : goal.returns-clause-last
returns-clause-last c = c.parts_at.ensures.last ∙ last_again (name_at c.args.files.now c.args.decl)
