use Rattle.lsp_rpc.proofs.WritingLemmas.{one, ◌▹◌}
use Rattle.lsp_rpc.proofs.initialize.write_yes.Goals as goal

pub returns : goal.returns
returns c =
    one c.in_ok-key.ensures ▹ one c.in_ok-boolean.ensures
