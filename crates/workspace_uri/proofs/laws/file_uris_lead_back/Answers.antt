use Rattle.workspace_uri.proofs.FileUris.{lead_back}
use Rattle.workspace_uri.proofs.laws.file_uris_lead_back.Goals as goal

pub returns : goal.returns
returns c = lead_back
