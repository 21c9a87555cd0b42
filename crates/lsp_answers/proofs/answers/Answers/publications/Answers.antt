use Rattle.std.proofs.Common.{◌≡◌, [], ◌∷◌, ◌++◌, rules, map, sym, ap, subst, ◌∙◌, append_assoc}
use Rattle.serde_json.specs.Written.{compact_text}
use Rattle.work_files.specs.View.{entry_view, file_view, files_view}
use Rattle.lsp_answers.specs.Reports.{publications_in, publications}
use Rattle.lsp_answers.proofs.PublicationLemmas.{publications-more}
use Rattle.lsp_answers.proofs.answers.Answers.publications.Goals as goal

pub loop-path-preserved : goal.loop-path-preserved
loop-path-preserved c =
    let answers = c.args.self.now in
    let old = map (λ body. body.items) c.loop-path.bodies.items in
    let file = c.in-Some.file.now in
    let left = files_view c.next.new.self in
    let step : c.loop-path.path-iterator ≡ (c.in-Some.path.now, file) ∷ c.next.new.self = search rules in
    let before = subst (λ es. old ++ map compact_text (publications_in answers (files_view es)) ≡ map compact_text (publications answers)) step c.loop-path.invariant in
    let own = map compact_text (publications_in answers (entry_view (c.in-Some.path.now, file) ∷ [])) in
    let added : map (λ body. body.items) c.publish.new.bodies.items ≡ old ++ own =
    c.in_ok-publish.ensures ∙ ap (λ p. old ++ map compact_text (publications_in answers ((p, file_view file) ∷ []))) c.as_str.ensures.value in
    ap (λ l. l ++ map compact_text (publications_in answers left)) added
    ∙ append_assoc old own (map compact_text (publications_in answers left))
    ∙ ap (λ l. old ++ l) (sym (publications-more answers (entry_view (c.in-Some.path.now, file)) left))
    ∙ before
