use Rattle.std.proofs.Common.{map, ap, ◌∙◌}
use Rattle.doc_text.specs.Positions.{position_of}
use Rattle.lsp_answers.specs.Ranges.{paired}
use Rattle.lsp_answers.proofs.RangesLemmas.{ranges-of-parts}
use Rattle.lsp_answers.proofs.ranges.ranges_of.Goals as goal

pub returns : goal.returns
returns c =
    let ends = c.as_slice.ensures.value ∙ c.in_ok-ends.ensures in
    let positions = c.as_slice-2.ensures.value ∙ c.in_ok-positions.ensures ∙ ap (map (position_of c.args.encoding c.args.text.now)) ends in
    c.in_ok-ranges.ensures ∙ ap paired positions ∙ ranges-of-parts c.args.encoding c.args.text.now c.args.parts.now
