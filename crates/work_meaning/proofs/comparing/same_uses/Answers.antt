use Rattle.std.proofs.Common.{◌<◌, length, arith}
use Rattle.work_meaning.specs.Bindings.{bound}
use Rattle.work_meaning.proofs.Alike.{alike_at}
use Rattle.work_meaning.proofs.comparing.same_uses.Goals as goal

pub returns-then-not-same_use : goal.returns-then-not-same_use
returns-then-not-same_use c =
    let there : c.loop-i.i < length c.args.a.now = omega arith in
    let there' : c.loop-i.i < length c.args.b.now = omega arith in (
      λ h. absurd (cc (h)),
      λ same. c.if-not-same_use.ensures.1 (alike_at bound c.args.a.now c.args.b.now c.loop-i.i c.index-a-i.result c.index-b-i.result there there' c.index-a-i.is c.index-b-i.is same),
    )
