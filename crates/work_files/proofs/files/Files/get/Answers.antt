use Rattle.std.proofs.Common.{◌∙◌, ap}
use Rattle.work_files.specs.Files.{file_at}
use Rattle.work_files.proofs.FilesLemmas.{view-lookup, view_of_ref}
use Rattle.work_files.proofs.files.Files.get.Goals as goal

pub returns : goal.returns
returns c = rw (view_of_ref c.get.result, c.get.ensures.value) (view-lookup c.args.path.now c.self.inside.by_path.entries ∙ ap (file_at c.args.path.now) c.self.view_is)
