use Rattle.std.proofs.Common.{◌≡◌, ◌++◌, [], refl, sym, ap, ◌∙◌, append-nil}
use Rattle.proto_decls.specs.Checks.{name_diags}
use Rattle.proto_decls.specs.Members.{names}
use Rattle.proto_facts.proofs.Places.{no_names}
use Rattle.proto_facts.proofs.bodies.add_name_diags.Goals as goal

pub returns-then-is_empty : goal.returns-then-is_empty
returns-then-is_empty c =
    let none : names c.args.source.text.now c.args.items.now ≡ [] =
    ap (λ rs. rs ++ names c.args.source.text.now c.args.items.now) (sym c.new-names.ensures) ∙ sym c.in_ok-add_names.ensures ∙ c.if-is_empty.ensures.0 refl in
    sym (append-nil c.args.diags.now) ∙ ap (λ ds. c.args.diags.now ++ ds) (sym (ap (name_diags c.args.source.text.now c.args.members.now) none ∙ no_names c.args.source.text.now c.args.members.now))
