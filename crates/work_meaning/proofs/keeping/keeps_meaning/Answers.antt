use Rattle.std.proofs.Common.{◌∙◌}
use Rattle.work_meaning.proofs.FileByFile.{means-by}
use Rattle.work_meaning.proofs.keeping.keeps_meaning.Goals as goal

pub returns-then-index : goal.returns-then-index
returns-then-index c = means-by c.args.earlier.now c.args.file _ _ _ _ _ c.in_ok-found.ensures.links (c.as_slice.ensures ∙ c.in_ok-found.ensures.diagnostics) c.means.ensures
