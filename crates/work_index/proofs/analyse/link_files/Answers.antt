use Rattle.work_index.specs.Workspace.{resolution_of, diagnostics_of}
use Rattle.work_index.proofs.Steps.{one_more}
use Rattle.work_index.proofs.analyse.link_files.Goals as goal

pub loop-place-preserved : goal.loop-place-preserved
loop-place-preserved g c =
    let ts = c.args.pieces.now in
    let k = c.loop-place.place in
    let piece = c.index-pieces-place.result in record {
      links = λ w r is. one_more r (resolution_of w) c.args.first k ts piece _ _ _ c.loop-place-test.true c.index-pieces-place.is (c.in_ok-push_linked.ensures.links w r is) (c.loop-place.invariant.links w r is);
      diagnostics = λ w r is. one_more r (diagnostics_of w) c.args.first k ts piece _ _ _ c.loop-place-test.true c.index-pieces-place.is (c.in_ok-push_linked.ensures.diagnostics w r is) (c.loop-place.invariant.diagnostics w r is);
    }
