use Rattle.std.proofs.Common.{arith}
use Rattle.std.proofs.lemmas.List.{take_more}
use Rattle.import_graph.proofs.Steps.{VisitsAll-none, VisitsAll-push}
use Rattle.import_graph.proofs.file_search.FileSearch.visit_all.Goals as goal

pub loop-file-init : goal.loop-file-init
loop-file-init c = VisitsAll-none _

pub loop-file-preserved : goal.loop-file-preserved
loop-file-preserved c =
    rw (take_more c.args.files.now c.loop-file.file-index 0 c.loop-file-test.true)
    (VisitsAll-push _ _ _ _ _ c.loop-file.invariant c.in_ok-visit.ensures
    (omega (arith, c.loop-file.invariant.as_long, c.requires c.loop-file.file-index 0 c.loop-file-test.true, c.args.self.now.seen.ok)))
