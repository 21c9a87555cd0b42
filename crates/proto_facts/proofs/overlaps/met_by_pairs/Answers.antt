use Rattle.proto_facts.proofs.OverlapLemmas.{no_interval, pairs-more, pairs-end}
use Rattle.proto_facts.proofs.overlaps.met_by_pairs.Goals as goal

pub good-preserved : goal.good-preserved
good-preserved c = pairs-more c.args.good.now c.good.i no_interval _ _ _ _ c.good-test.true c.good.invariant c.overlaps_one-again.ensures c.in_ok-push.ensures.items

pub returns : goal.returns
returns c = pairs-end c.args.good.now c.good.i _ _ c.good-test.false c.good.invariant
