use Rattle.std.proofs.Common.{◌∷◌, [], ◌++◌, arith}
use Rattle.std.proofs.lemmas.Grind.{common_steps}
use Rattle.work_shares.proofs.indexed.take_apart.Goals as goal

pub loop-answer-preserved : goal.loop-answer-preserved
loop-answer-preserved c = record {
  all = c.loop-answer.invariant.all ++ c.in_ok-share.field-0 ∷ [];
  none_refused = grind (arith, common_steps);
  shares = grind (arith, common_steps);
  parts = grind (arith, common_steps);
}
