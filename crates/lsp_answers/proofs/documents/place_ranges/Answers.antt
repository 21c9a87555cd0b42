use Rattle.std.proofs.Common.{map, ap, ◌∙◌}
use Rattle.std.proofs.lemmas.Simd.{map-map}
use Rattle.lsp_queries.specs.declared.place.Place.{Place}
use Rattle.lsp_answers.specs.Ranges.{range_at}
use Rattle.lsp_answers.proofs.documents.place_ranges.Goals as goal

pub returns : goal.returns
returns c =
    let at = range_at c.args.encoding c.args.text.now in
    let parts = c.as_slice.ensures.value ∙ c.in_ok-parts.ensures in
    c.in_ok-ranges.ensures ∙ ap (map at) parts ∙ map-map at (λ (p : Place). (p.start, p.end)) c.args.places.now
