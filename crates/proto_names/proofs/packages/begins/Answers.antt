use Rattle.std.proofs.Common.{◌∙◌, sym, ap, ◌&&◌, drop, length}
use Rattle.proto_decls.specs.Text.{joined}
use Rattle.proto_names.specs.Files.{ends_component}
use Rattle.proto_names.proofs.packages.begins.Goals as goal

pub returns-in-Some : goal.returns-in-Some
returns-in-Some c =
    let name = joined c.args.name.scope.now c.args.name.last.now in
    c.ends_component.ensures ∙ ap ends_component c.in-Some.ensures.1 ∙ sym (ap (λ b. b && ends_component (drop (length name) c.args.full_name.now)) c.in-Some.ensures.0)

pub returns-in-None : goal.returns-in-None
returns-in-None c =
    let name = joined c.args.name.scope.now c.args.name.last.now in
    sym (ap (λ b. b && ends_component (drop (length name) c.args.full_name.now)) c.in-None.ensures)
