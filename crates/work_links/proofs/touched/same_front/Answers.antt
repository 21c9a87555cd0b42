use Rattle.std.proofs.Common.{rules}
use Rattle.std.proofs.iter.runs.Made.{chains}
use Rattle.proto_names.specs.Outlines.{declared}
use Rattle.work_links.proofs.Alike.{same_at_front}
use Rattle.work_links.proofs.touched.same_front.Goals as goal

pub returns-clause-alike : goal.returns-clause-alike
returns-clause-alike c = same_at_front declared c.count.result c.args.old.now c.args.new.now (search (rules, chains)) (search (rules, chains)) (search (rules, chains))
