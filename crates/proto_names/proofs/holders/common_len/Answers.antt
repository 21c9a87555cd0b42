use Rattle.std.proofs.Common.{sym, arith}
use Rattle.proto_names.proofs.Fronts.{differs_at, too_long}
use Rattle.proto_names.proofs.holders.common_len.Goals as goal
use Rattle.proto_names.proofs.holders.common_len.Goals.{then-at-b-via-then-at-b, then-at-b-via-else-at-b+then-b-at}

pub returns-then-at-b-clause-common : goal.returns-then-at-b-clause-common
returns-then-at-b-clause-common c = λ l below le. elim c.then-at-b.branch [
  | then-at-b-via-then-at-b w ↦ absurd (omega (arith, below, le, w.if-at-b.true))
  | then-at-b-via-else-at-b+then-b-at w ↦ differs_at c.args.a.now c.args.b.now c.loop-at.at c.loop-at-test.true (λ e. w.if-b-at.true (sym e)) l below le
]

pub returns-clause-common : goal.returns-clause-common
returns-clause-common c = λ l below le. too_long c.args.a.now c.args.b.now l below le
