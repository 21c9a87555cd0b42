use Rattle.lsp_rpc.proofs.WritingLemmas.{one, ◌▹◌}
use Rattle.lsp_rpc.proofs.initialize.write_initialize_result.Goals as goal

pub returns : goal.returns
returns c =
    one c.in_ok-begin_object.ensures ▹ one c.in_ok-key.ensures ▹ c.in_ok-write_capabilities.ensures ▹ one c.in_ok-key-2.ensures ▹ c.in_ok-write_server_info.ensures ▹ one c.in_ok-end_object.ensures
