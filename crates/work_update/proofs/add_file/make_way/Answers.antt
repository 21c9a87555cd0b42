use Rattle.std.proofs.Common.{arith}
use Rattle.work_update.proofs.Arrived.{all_stay}
use Rattle.work_update.proofs.add_file.make_way.Goals as goal

pub returns-else-at-count : goal.returns-else-at-count
returns-else-at-count c = all_stay c.args.at c.args.count (omega (arith, c.if-at-count.false)) c.args.links.now.items
