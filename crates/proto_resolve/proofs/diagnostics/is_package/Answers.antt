use Rattle.std.proofs.Common.{◌∙◌, ap}
use Rattle.std.specs.List.{list_any}
use Rattle.proto_names.specs.Files.{has_package}
use Rattle.proto_names.proofs.Apart.{whole}
use Rattle.proto_resolve.proofs.diagnostics.is_package.Goals as goal

pub returns : goal.returns
returns g c =
    c.sees_package.ensures
    ∙ ap (λ n. list_any (has_package (g.I.Index.files c.args.index.now) n) c.args.view.now.files)
    (whole c.args.name.now c.parts.result.scope.now c.parts.result.last.now c.parts.ensures.scope c.parts.ensures.last)
