use Rattle.std.proofs.Common.{◌≤◌, ◌+◌, arith}
use Rattle.proto_names.proofs.MovedBuckets.{buckets_before}
use Rattle.proto_names.proofs.buckets.Buckets.make_way.Goals as goal

pub returns-else-saturating_sub-gt1 : goal.returns-else-saturating_sub-gt1
returns-else-saturating_sub-gt1 c =
    let last : c.args.count ≤ c.args.at + 1 = omega (arith, c.saturating_sub.ensures, c.if-saturating_sub-gt1.false) in
    buckets_before c.args.at c.args.count c.args.self.now.list.items last c.requires
