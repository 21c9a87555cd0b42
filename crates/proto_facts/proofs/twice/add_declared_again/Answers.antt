use Rattle.std.proofs.Common.{◌≡◌, ap, ◌∙◌, take, get_or, ◌||◌}
use Rattle.std.specs.Str.{bytes_eq}
use Rattle.std.specs.List.{list_any}
use Rattle.proto_facts.specs.Seen.{has_full_name}
use Rattle.proto_decls.specs.Checks.{diag_if}
use Rattle.proto_decls.specs.Facts.{declared_twice}
use Rattle.proto_decls.specs.declared.problem.Problem.TheVariants as m
use Rattle.proto_decls.specs.declared.fact.Decl.{Decl}
use Rattle.proto_facts.proofs.Places.{diags-next, judged-end, any-next}
use Rattle.proto_facts.proofs.twice.add_declared_again.Goals as goal

pub names-preserved : goal.names-preserved
names-preserved c =
    let l = c.names in
    let xs = c.args.decls.now in
    let x = c.name-item.result in
    let here = get_or xs l.name-index x in
    let text : x.full_name ≡ here.full_name = ap (λ (y : Decl). y.full_name) c.name-item.is in
    let before = list_any (λ (e : Decl). bytes_eq e.full_name here.full_name) (take l.name-index xs) in
    let found : c.in_ok-again.again ≡ before = c.in_ok-again.ensures.found ∙ ap (has_full_name l.seen) text ∙ l.invariant.met here.full_name in
    record {
      met = λ q. any-next (λ (e : Decl). bytes_eq e.full_name q) xs l.name-index x _ _ c.names-test.true
          (c.in_ok-again.ensures.more q ∙ ap (λ t. bytes_eq t q || has_full_name l.seen q) text) (l.invariant.met q);
      diags = diags-next declared_twice xs l.name-index x _ _ _ _ c.names-test.true l.invariant.diags c.in_ok-add.ensures
          (c.diag_if.ensures ∙ ap (λ b. diag_if b m.DeclaredTwice x.name_span) found ∙ ap (λ (y : Decl). diag_if before m.DeclaredTwice y.name_span) c.name-item.is);
    }

pub returns : goal.returns
returns c = judged-end declared_twice c.args.decls.now c.names.name-index _ _ c.names-test.false c.names.invariant.diags
