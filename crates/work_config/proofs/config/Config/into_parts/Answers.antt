use Rattle.std.proofs.Common.{◌∙◌, ap}
use Rattle.workspace_uri.specs.View.{roots_texts}
use Rattle.work_config.specs.Configuration.{in_root_order}
use Rattle.work_config.proofs.ConfigLemmas.{in_order}
use Rattle.work_config.proofs.config.Config.into_parts.Goals as goal

pub returns-clause-files : goal.returns-clause-files
returns-clause-files c =
    in_order (roots_texts c.self.inside.roots) _ _ c.self.inside.reads_others c.self.inside.good c.in_ok-sort_by_root.ensures.same c.in_ok-sort_by_root.ensures.sorted c.in_ok-sort_by_root.ensures.stable ∙ ap in_root_order c.self.view_is
