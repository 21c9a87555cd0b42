use Rattle.std.proofs.Common.{get_or, ◌∙◌, arith}
use Rattle.std.proofs.lemmas.List.{get_or_default, take_more}
use Rattle.import_graph.proofs.Representatives.{Adds-target}
use Rattle.import_graph.proofs.condensed.add_steps.Goals as goal

pub loop-target-preserved : goal.loop-target-preserved
loop-target-preserved c =
    let long = c.loop-target.invariant.length_is in
    record {
      length_is = c.in_ok-add_step.ensures.length ∙ long;
      within = rw long at c.in_ok-add_step.ensures.within;
      adds = rw (take_more c.args.targets.now c.loop-target.target-index 0 c.loop-target-test.true)
          (Adds-target _ _ _ _ _ _ _ _
          (get_or_default c.args.representatives.now (get_or c.args.targets.now c.loop-target.target-index 0) 0 _ (omega (arith, c.requires.targets c.loop-target.target-index 0 c.loop-target-test.true, c.requires.count)))
          c.loop-target.invariant.adds c.in_ok-add_step.ensures.adds);
    }
