use Rattle.lsp_rpc.proofs.WritingLemmas.{one, ◌▹◌}
use Rattle.lsp_rpc.proofs.diagnostic.write_position.Goals as goal

pub returns : goal.returns
returns c = one c.in_ok-begin_object.ensures ▹ one c.in_ok-key.ensures ▹ one c.in_ok-u64.ensures ▹ one c.in_ok-key-2.ensures ▹ one c.in_ok-u64-2.ensures ▹ one c.in_ok-end_object.ensures
