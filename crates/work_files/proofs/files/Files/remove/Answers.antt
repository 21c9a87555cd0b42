use Rattle.std.proofs.Common.{◌∙◌, ap}
use Rattle.work_files.specs.Files.{without_file}
use Rattle.work_files.specs.View.{files_view}
use Rattle.work_files.proofs.FilesLemmas.{view-remove}
use Rattle.work_files.proofs.files.Files.remove.Goals as goal

pub returns : goal.returns
returns c = ap files_view c.remove.ensures.entries ∙ view-remove c.args.path.now _ ∙ ap (without_file c.args.path.now) c.self.view_is
