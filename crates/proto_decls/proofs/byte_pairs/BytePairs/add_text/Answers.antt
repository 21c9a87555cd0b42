use Rattle.std.proofs.Common.{arith}
use Rattle.proto_decls.proofs.PairLemmas.{kept-one, one-more}
use Rattle.proto_decls.proofs.byte_pairs.BytePairs.add_text.Goals as goal

pub loop-next-preserved : goal.loop-next-preserved
loop-next-preserved c = record {
  added = rw c.add.ensures.value (one-more c.loop-next.self c.args.text.now c.loop-next.next (omega (arith, c.loop-next.auto.next)) c.add.ensures.within c.loop-next.invariant.added);
  kept = λ other has. rw c.add.ensures.value (kept-one c.loop-next.self _ other c.add.ensures.within (c.loop-next.invariant.kept other has));
}
