use Rattle.std.proofs.Common.{map, ap, ◌∙◌}
use Rattle.std.proofs.lemmas.Simd.{map-map}
use Rattle.proto_decls.specs.declared.diagnostic.Diag.{Diag}
use Rattle.lsp_answers.specs.Ranges.{range_at}
use Rattle.lsp_answers.proofs.diagnostics.placed.Goals as goal

pub with_ranges-requires : goal.with_ranges-requires
with_ranges-requires c =
    let at = range_at c.args.encoding c.args.text.now in
    let parts = c.as_slice.ensures.value ∙ c.in_ok-parts.ensures in
    c.as_slice-2.ensures.value ∙ c.in_ok-ranges.ensures ∙ ap (map at) parts ∙ map-map at (λ (d : Diag). (d.start, d.end)) c.args.diags.now
