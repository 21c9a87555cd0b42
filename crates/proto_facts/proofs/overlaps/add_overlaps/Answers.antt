use Rattle.proto_decls.specs.Checks.{range_twice}
use Rattle.proto_facts.proofs.OverlapLemmas.{no_interval}
use Rattle.proto_facts.proofs.Places.{diags-next, judged-end}
use Rattle.proto_facts.proofs.overlaps.add_overlaps.Goals as goal

pub good-preserved : goal.good-preserved
good-preserved c = diags-next range_twice c.args.good.now c.good.i no_interval _ _ _ _ c.good-test.true c.good.invariant c.in_ok-add.ensures c.range_twice.ensures

pub returns : goal.returns
returns c = judged-end range_twice c.args.good.now c.good.i _ _ c.good-test.false c.good.invariant
