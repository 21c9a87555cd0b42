use Rattle.std.proofs.Common.{◌∙◌}
use Rattle.proto_names.proofs.Apart.{tested}
use Rattle.proto_names.proofs.hashed.has_text.Goals as goal

pub returns : goal.returns
returns g c =
    c.equals.ensures ∙ tested (g.N.Naming.part c.args.files.now c.args.decl) c.part.result.scope.now c.part.result.last.now c.part.ensures.scope c.part.ensures.last c.args.text.scope.now c.args.text.last.now c.requires
