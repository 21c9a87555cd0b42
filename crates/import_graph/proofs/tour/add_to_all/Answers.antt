use Rattle.std.proofs.Common.{◌∙◌, arith}
use Rattle.std.proofs.lemmas.List.{take_more, take_all}
use Rattle.import_graph.proofs.Turns.{Adds-push}
use Rattle.import_graph.proofs.tour.add_to_all.Goals as goal

pub loop-target-preserved : goal.loop-target-preserved
loop-target-preserved c =
    let long = c.loop-target.invariant.length_is in
    let target = c.requires.targets c.loop-target.target-index 0 c.loop-target-test.true in
    record {
      length_is = c.in_ok-add_to.ensures.length ∙ long;
      within = rw long at c.in_ok-add_to.ensures.within;
      adds = rw (take_more c.args.targets.now c.loop-target.target-index 0 c.loop-target-test.true, c.in_ok-add_to.ensures.adds)
          (Adds-push _ _ _ _ _ (omega (arith, target, long, c.loop-target.rows.ok)) c.loop-target.invariant.adds);
    }

pub returns-clause-adds : goal.returns-clause-adds
returns-clause-adds c = rw (take_all _ c.args.targets.now c.loop-target-test.false) at c.loop-target.invariant.adds
