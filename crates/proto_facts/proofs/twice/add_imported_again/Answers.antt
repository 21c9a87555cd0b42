use Rattle.std.proofs.Common.{◌≡◌, ap, ◌∙◌, take, get_or, ◌||◌}
use Rattle.std.specs.Str.{bytes_eq}
use Rattle.std.specs.List.{list_any}
use Rattle.proto_facts.specs.Seen.{has_name}
use Rattle.proto_decls.specs.Checks.{diag_if}
use Rattle.proto_decls.specs.Facts.{imported_twice}
use Rattle.proto_decls.specs.declared.problem.Problem.TheVariants as m
use Rattle.proto_decls.specs.declared.fact.ImportFact.{ImportFact}
use Rattle.proto_facts.proofs.Places.{diags-next, judged-end, any-next}
use Rattle.proto_facts.proofs.twice.add_imported_again.Goals as goal

pub names-preserved : goal.names-preserved
names-preserved c =
    let l = c.names in
    let xs = c.args.imports.now in
    let x = c.name-item.result in
    let here = get_or xs l.name-index x in
    let text : c.as_str.result.now ≡ here.path = c.as_str.ensures ∙ ap (λ (y : ImportFact). y.path) c.name-item.is in
    let before = list_any (λ (e : ImportFact). bytes_eq e.path here.path) (take l.name-index xs) in
    let found : c.in_ok-again.again ≡ before = c.in_ok-again.ensures.found ∙ ap (has_name l.seen) text ∙ l.invariant.met here.path in
    record {
      met = λ q. any-next (λ (e : ImportFact). bytes_eq e.path q) xs l.name-index x _ _ c.names-test.true
          (c.in_ok-again.ensures.more q ∙ ap (λ t. bytes_eq t q || has_name l.seen q) text) (l.invariant.met q);
      diags = diags-next imported_twice xs l.name-index x _ _ _ _ c.names-test.true l.invariant.diags c.in_ok-add.ensures
          (c.diag_if.ensures ∙ ap (λ b. diag_if b m.ImportedTwice x.span) found ∙ ap (λ (y : ImportFact). diag_if before m.ImportedTwice y.span) c.name-item.is);
    }

pub returns : goal.returns
returns c = judged-end imported_twice c.args.imports.now c.names.name-index _ _ c.names-test.false c.names.invariant.diags
