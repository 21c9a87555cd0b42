use Rattle.work_files.proofs.PathOrder.{order-apart}
use Rattle.work_files.proofs.WorkspaceLemmas.{text_of_workspace}
use Rattle.lsp_core.specs.Session.{session}
use Rattle.lsp_core.proofs.FilesLemmas.{session-order}
use Rattle.lsp_core.proofs.laws.documents_are_of_the_workspace.Goals as goal

pub returns : goal.returns
returns c = λ config bodies path.
    let files = (session config bodies).state.files in
    text_of_workspace path files (order-apart files (session-order config bodies))
