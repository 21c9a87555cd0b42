use Rattle.std.proofs.Common.{◌∷◌, [], ◌++◌, arith}
use Rattle.std.proofs.lemmas.Grind.{common_steps}
use Rattle.work_shares.proofs.linked.gather.Goals as goal

pub loop-answer-preserved : goal.loop-answer-preserved
loop-answer-preserved c = record {
  parts = c.loop-answer.invariant.parts ++ c.in_ok-more.field-0 ∷ [];
  none_refused = grind (arith, common_steps);
  pieces = grind (arith, common_steps);
  links = grind (arith, common_steps);
  diagnostics = grind (arith, common_steps);
}
