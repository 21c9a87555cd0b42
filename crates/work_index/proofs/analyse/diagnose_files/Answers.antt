use Rattle.work_index.specs.Workspace.{diagnostics_of}
use Rattle.work_index.proofs.Steps.{one_more}
use Rattle.work_index.proofs.analyse.diagnose_files.Goals as goal

pub loop-place-preserved : goal.loop-place-preserved
loop-place-preserved g c = λ w r is.
    one_more r (diagnostics_of w) c.args.first c.loop-place.place c.args.pieces.now c.index-pieces-place.result _ _ _ c.loop-place-test.true c.index-pieces-place.is (c.in_ok-push_diagnosed.ensures w r is) (c.loop-place.invariant w r is)
