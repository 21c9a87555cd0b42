use Rattle.std.proofs.Common.{arith}
use Rattle.std.proofs.lemmas.List.{take_more}
use Rattle.import_graph.proofs.Placing.{PlacesAll-none, PlacesAll-push}
use Rattle.import_graph.proofs.components.Placing.place_all.Goals as goal

pub loop-file-init : goal.loop-file-init
loop-file-init c = PlacesAll-none c.args.none c.args.number _

pub loop-file-preserved : goal.loop-file-preserved
loop-file-preserved c =
    rw (take_more c.args.files.now c.loop-file.file-index 0 c.loop-file-test.true)
    (PlacesAll-push _ _ c.requires.number _ _ _ _ _ c.loop-file.invariant c.in_ok-place.ensures
    (omega (arith, c.loop-file.invariant.as_long, c.requires.files c.loop-file.file-index 0 c.loop-file-test.true, c.args.self.now.numbers.ok)))
