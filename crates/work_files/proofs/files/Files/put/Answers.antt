use Rattle.std.proofs.Common.{◌∙◌, ap, string_bytes}
use Rattle.work_files.specs.Files.{with_file}
use Rattle.work_files.specs.View.{file_view}
use Rattle.work_files.proofs.FilesLemmas.{view-insert}
use Rattle.work_files.proofs.files.Files.put.Goals as goal

pub returns-clause-ok : goal.returns-clause-ok
returns-clause-ok c = rw c.in_ok-insert.ensures.entries (view-insert c.self.inside.by_path.entries c.args.path c.args.file ∙ ap (with_file (string_bytes c.args.path) (file_view c.args.file)) c.self.view_is)
