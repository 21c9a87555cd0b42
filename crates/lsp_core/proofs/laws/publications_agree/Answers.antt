use Rattle.std.proofs.Common.{refl}
use Rattle.lsp_core.specs.Session.{context_of, session}
use Rattle.lsp_core.proofs.FilesLemmas.{session-order}
use Rattle.lsp_core.proofs.laws.publications_agree.Goals as goal

pub returns : goal.returns
returns c = λ config bodies. let state = (session config bodies).state in c.publications_agree_with_reports.ensures state.reads_others (context_of state) (session-order config bodies) refl
