use Rattle.std.proofs.Common.{◌∙◌, ap}
use Rattle.std.specs.Ordering.{is_lt}
use Rattle.proto_decls.specs.Text.{joined}
use Rattle.proto_names.proofs.Apart.{compared}
use Rattle.proto_names.proofs.hashed.is_before_text.Goals as goal

pub returns : goal.returns
returns g c =
    c.is_lt.ensures ∙ ap is_lt (c.compare.ensures ∙ compared (g.N.Naming.part c.args.files.now c.args.decl) c.part.result.scope.now c.part.result.last.now c.part.ensures.scope c.part.ensures.last (joined c.args.text.scope.now c.args.text.last.now))
