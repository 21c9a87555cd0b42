use Rattle.std.proofs.Common.{◌∙◌, sym, refl}
use Rattle.work_files.proofs.FilesLemmas.{left, stayed}
use Rattle.work_files.proofs.files.Files.close.Goals as goal

pub returns-then-close_at : goal.returns-then-close_at
returns-then-close_at c = c.remove.ensures ∙ left c.args.path.now c.args.self.now _ _ refl (sym c.close_at.ensures.leaves ∙ c.if-close_at.true) c.close_at.ensures.files

pub returns-else-close_at : goal.returns-else-close_at
returns-else-close_at c = stayed c.args.path.now c.args.self.now _ _ refl (sym c.close_at.ensures.leaves ∙ c.if-close_at.false) c.close_at.ensures.files
