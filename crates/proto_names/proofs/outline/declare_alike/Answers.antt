use Rattle.std.proofs.Common.{◌<◌, length, arith}
use Rattle.proto_names.specs.Outlines.{declared}
use Rattle.proto_names.proofs.Outlines.{alike_at}
use Rattle.proto_names.proofs.outline.declare_alike.Goals as goal

pub returns-then-not-is_alike : goal.returns-then-not-is_alike
returns-then-not-is_alike c =
    let there : c.loop-i.i < length c.args.a.now = omega arith in
    let there' : c.loop-i.i < length c.args.b.now = omega arith in (
      λ h. absurd (cc (h)),
      λ same. c.if-not-is_alike.ensures.1 (alike_at declared c.args.a.now c.args.b.now c.loop-i.i c.index-a-i.result c.index-b-i.result there there' c.index-a-i.is c.index-b-i.is same),
    )
