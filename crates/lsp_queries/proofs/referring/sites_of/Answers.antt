use Rattle.std.proofs.Common.{◌<◌, ◌+◌, ◌∙◌, ◌++◌, ℕ, List, [], drop, length, sym, ap, arith}
use Rattle.std.specs.List.{enumerate_from, flat_map}
use Rattle.std.proofs.lemmas.List.{append_assoc}
use Rattle.lsp_queries.specs.Answers.{sites_in}
use Rattle.lsp_queries.specs.declared.place.Place.{Place}
use Rattle.lsp_queries.proofs.NextFile.{next_file}
use Rattle.lsp_queries.proofs.referring.sites_of.Goals as goal

pub loop-file-preserved : goal.loop-file-preserved
loop-file-preserved c =
    let a = c.args.analysis.now in
    let n = c.loop-file.file in
    let found : List Place = c.loop-file.found.items in
    let sites : ℕ × List ℕ → List Place = λ e. sites_in a c.args.decl c.args.own e.0 in
    let there : n < length a.paths = omega (arith, c.loop-file-test.true, c.file_count-file-end.ensures) in
    let rest : List Place = flat_map sites (enumerate_from (n + 1) (drop (n + 1) a.paths)) in
    ap (λ (places : List Place). places ++ rest) (c.in_ok-append.ensures.items ∙ ap (λ (places : List Place). found ++ places) c.in_ok-places.ensures)
    ∙ append_assoc found (sites (n, [])) rest
    ∙ ap (λ (files : List (ℕ × List ℕ)). found ++ flat_map sites files) (sym (next_file a.paths n there))
    ∙ c.loop-file.invariant
