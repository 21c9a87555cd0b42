use Rattle.std.proofs.Common.{◌∙◌, [], ◌∷◌}
use Rattle.proto_decls.specs.FullNames.{dot}
use Rattle.proto_decls.specs.Text.{joined}
use Rattle.proto_names.proofs.Prefixes.{goes_on, fails_at_once}
use Rattle.proto_names.proofs.packages.begins_dotted.Goals as goal

pub returns-in-Some : goal.returns-in-Some
returns-in-Some c =
    let name = joined c.args.name.scope.now c.args.name.last.now in
    c.begins_with_dot.ensures ∙ rw c.in-Some.ensures.1 (goes_on c.args.text.now name (dot ∷ []) c.in-Some.ensures.0)

pub returns-in-None : goal.returns-in-None
returns-in-None c =
    let name = joined c.args.name.scope.now c.args.name.last.now in
    fails_at_once c.args.text.now name (dot ∷ []) c.in-None.ensures
