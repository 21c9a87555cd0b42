use Rattle.std.proofs.Common.{map, ap, sym, ◌∙◌}
use Rattle.std.proofs.lemmas.Simd.{map-map}
use Rattle.lsp_queries.specs.Answers.{symbols}
use Rattle.lsp_answers.specs.Answers.{declarations, location_of, symbol_of}
use Rattle.lsp_answers.specs.Views.{found_view}
use Rattle.lsp_answers.specs.declared.declarations.FoundDecl.{FoundDecl}
use Rattle.lsp_answers.proofs.answers.Answers.symbols_for.Goals as goal

pub symbols_of-requires : goal.symbols_of-requires
symbols_of-requires c =
    let at = location_of c.args.self.now in
    c.in_ok-documents.ensures.locations ∙ ap (map at) (c.as_slice-3.ensures.value ∙ c.in_ok-places.ensures) ∙ map-map at (λ (f : FoundDecl). f.place) c.as_slice-2.result.now
    ∙ ap (map (λ (f : FoundDecl). at f.place)) (c.as_slice-2.ensures.value ∙ sym c.as_slice-4.ensures.value)

pub returns : goal.returns
returns c =
    let of = symbol_of c.args.self.now in
    let known = c.analysis-analysis.result.now in
    let found = c.in_ok-found.ensures ∙ ap (declarations known) (c.as_slice.ensures.value ∙ c.in_ok-decls.ensures) ∙ ap (λ a. declarations a (symbols a c.args.query.now)) c.analysis-analysis.ensures in
    c.in_ok-listed.ensures ∙ ap (λ l. map of (map found_view l)) c.as_slice-4.ensures.value ∙ ap (map of) found
