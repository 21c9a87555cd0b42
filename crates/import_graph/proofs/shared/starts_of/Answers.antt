use Rattle.std.proofs.Common.{◌≡◌, [], get_or, ◌∙◌}
use Rattle.std.proofs.lemmas.List.{get_or_default}
use Rattle.std.proofs.lemmas.List.Elements.{All-push}
use Rattle.import_graph.specs.Shared.{IsStart}
use Rattle.import_graph.proofs.shared.starts_of.Goals as goal

pub loop-file-preserved : goal.loop-file-preserved
loop-file-preserved c =
    let row : c.as_slice.result.now ≡ get_or c.args.imports.now c.loop-file.file [] =
    c.as_slice.ensures ∙ (c.index-imports-file.is ∙ get_or_default c.args.imports.now c.loop-file.file _ [] c.loop-file-test.true) in
    rw c.in_ok-push.ensures.items
    (All-push (IsStart c.args.representatives.now c.args.imports.now) _ _ c.loop-file.invariant (record { there = c.loop-file-test.true; exact = rw row at c.in_ok-first.ensures }))
