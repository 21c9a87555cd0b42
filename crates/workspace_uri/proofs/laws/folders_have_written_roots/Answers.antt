use Rattle.workspace_uri.proofs.FolderRoots.{folder_roots}
use Rattle.workspace_uri.proofs.laws.folders_have_written_roots.Goals as goal

pub returns : goal.returns
returns c = folder_roots
