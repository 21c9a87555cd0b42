use Rattle.std.proofs.Common.{◌≡◌, [], get_or, ◌∙◌, arith}
use Rattle.std.proofs.lemmas.List.{get_or_default, length-take-le, take_all, take_more}
use Rattle.import_graph.proofs.Turns.{IsTurned-push}
use Rattle.import_graph.proofs.tour.importers.Goals as goal

pub loop-file-preserved : goal.loop-file-preserved
loop-file-preserved c =
    let long = c.loop-file.invariant.length_is in
    let row : c.as_slice.result.now ≡ get_or c.args.imports.now c.loop-file.file [] =
    c.as_slice.ensures ∙ (c.index-imports-file.is ∙ get_or_default c.args.imports.now c.loop-file.file _ [] c.loop-file-test.true) in
    record {
      length_is = c.in_ok-add_to_all.ensures.length ∙ long;
      within = rw long at c.in_ok-add_to_all.ensures.within;
      turned = rw (take_more c.args.imports.now c.loop-file.file [] c.loop-file-test.true)
          (IsTurned-push _ _ _ _ c.loop-file.file (length-take-le c.loop-file.file c.args.imports.now (omega arith)) c.loop-file.invariant.turned (rw row at c.in_ok-add_to_all.ensures.adds));
    }

pub returns-clause-turned : goal.returns-clause-turned
returns-clause-turned c = rw (take_all c.loop-file.file c.args.imports.now c.loop-file-test.false) at c.loop-file.invariant.turned
