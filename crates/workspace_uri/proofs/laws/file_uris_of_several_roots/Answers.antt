use Rattle.workspace_uri.proofs.FileUris.{of_several_roots}
use Rattle.workspace_uri.proofs.laws.file_uris_of_several_roots.Goals as goal

pub returns : goal.returns
returns c = of_several_roots
