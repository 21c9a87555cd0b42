use Rattle.std.proofs.Common.{rules, not}
use borrow.Author.Tests.{tests}
use Rattle.std.proofs.lemmas.Iterator.{YieldsList-from_slice}
use Rattle.std.proofs.lemmas.Iterator.Search.{position_from_yields_List}
use Rattle.work_config.specs.Configuration.{is_good_file}
use Rattle.work_files.specs.Disk.{disk_view}
use Rattle.work_config.proofs.config.first_bad.Goals as goal

pub returns : goal.returns
returns c = position_from_yields_List (λ f. not (is_good_file c.args.roots (disk_view f))) _ _ c.position.result c.position.ensures.ran (YieldsList-from_slice _ c.iter.ensures.rest) (λ x b q k. search (rules, tests))
