use Rattle.std.proofs.Common.{◌∙◌}
use Rattle.proto_decls.specs.Text.{joined}
use Rattle.proto_names.proofs.Packaged.{sees_one}
use Rattle.proto_resolve.proofs.views.sees_package.Goals as goal

pub returns-then-packaged-len : goal.returns-then-packaged-len
returns-then-packaged-len g c =
    c.has_one_of.ensures ∙ sees_one (g.I.Index.files c.args.index.now) (joined c.args.name.scope.now c.args.name.last.now) c.args.view.now.files c.packaged-packaged.result.now c.packaged-packaged.ensures
