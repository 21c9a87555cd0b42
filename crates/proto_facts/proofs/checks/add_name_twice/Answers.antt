use Rattle.std.proofs.Common.{◌≡◌, ap, ◌∙◌, take, get_or, ◌||◌}
use Rattle.std.specs.Str.{bytes_eq}
use Rattle.std.specs.BTreeSet.{contains_text}
use Rattle.std.specs.List.{list_any}
use Rattle.proto_decls.specs.Checks.{name_twice, diag_if}
use Rattle.proto_decls.specs.declared.problem.Problem.TheVariants as m
use Rattle.proto_decls.specs.declared.part.ReservedName.{ReservedName}
use Rattle.proto_facts.proofs.Places.{diags-next, judged-end, any-next}
use Rattle.proto_facts.proofs.checks.add_name_twice.Goals as goal

pub names-preserved : goal.names-preserved
names-preserved c =
    let l = c.names in
    let xs = c.args.names.now in
    let x = c.name-item.result in
    let here = get_or xs l.name-index x in
    let text : c.as_str.result.now ≡ here.text = c.as_str.ensures ∙ ap (λ (y : ReservedName). y.text) c.name-item.is in
    let before = list_any (λ (e : ReservedName). bytes_eq e.text here.text) (take l.name-index xs) in
    let found : c.in_ok-again.again ≡ before = c.in_ok-again.ensures.found ∙ ap (contains_text l.seen) text ∙ l.invariant.met here.text in
    record {
      met = λ q. any-next (λ (e : ReservedName). bytes_eq e.text q) xs l.name-index x _ _ c.names-test.true
          (c.in_ok-again.ensures.more q ∙ ap (λ t. bytes_eq t q || contains_text l.seen q) text) (l.invariant.met q);
      diags = diags-next name_twice xs l.name-index x _ _ _ _ c.names-test.true l.invariant.diags c.in_ok-add.ensures
          (c.diag_if.ensures ∙ ap (λ b. diag_if b m.ReservedTwice x.span) found ∙ ap (λ (y : ReservedName). diag_if before m.ReservedTwice y.span) c.name-item.is);
    }

pub returns-clause-added : goal.returns-clause-added
returns-clause-added c = judged-end name_twice c.args.names.now c.names.name-index _ _ c.names-test.false c.names.invariant.diags
