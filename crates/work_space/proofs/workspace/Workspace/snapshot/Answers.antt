use Rattle.std.proofs.Common.{◌∙◌, ap, sym, subst}
use Rattle.std.specs.Prelude.{IsTrue}
use Rattle.work_index.specs.Workspace.{sources_of, workspace_in}
use Rattle.work_index.proofs.Known.{known_workspace}
use Rattle.work_files.specs.Files.{workspace}
use Rattle.work_space.specs.View.{WorkspaceData}
use Rattle.work_space.proofs.Keeps.{known_now}
use Rattle.work_space.proofs.workspace.Workspace.snapshot.Goals as goal

pub returns : goal.returns
returns c =
    let files = c.self.inside.files in
    let others = c.self.inside.reads_others in
    c.of.ensures ∙ ap workspace_in (known_now others files c.self.inside.board c.self.inside.known c.in-Some.known c.self.invariant c.in-Some.is (subst IsTrue (sym (ap (λ w. w.is_current) c.self.view_is)) c.requires))
    ∙ known_workspace (sources_of others (workspace files)) ∙ ap (λ (w : WorkspaceData). sources_of w.reads_others (workspace w.files)) c.self.view_is
