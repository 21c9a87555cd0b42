use Rattle.std.proofs.Common.{◌≡◌, Vec, Global}
use Rattle.std.proofs.lemmas.Result.{IfOk-weaker}
use Rattle.lsp_queries.specs.Answers.{sites_of}
use Rattle.lsp_renames.specs.Cutting.{AreCutOut}
use Rattle.lsp_queries.specs.declared.place.Place.{Place}
use Rattle.lsp_renames.proofs.CutPlaces.{known-cut}
use Rattle.lsp_renames.proofs.renaming.all_places.Goals as goal

pub returns-clause-cut : goal.returns-clause-cut
returns-clause-cut c =
    let a = c.args.analysis.now in
    IfOk-weaker c.sites_of.result
    (λ (places : Vec Place Global). places.items ≡ sites_of a c.args.decl c.place_of.result)
    (λ (places : Vec Place Global). AreCutOut a places.items)
    (λ places are. known-cut a c.known.ensures c.places_cut_out.ensures c.args.decl c.place_of.result places.items c.place_of.ensures are) c.sites_of.ensures
