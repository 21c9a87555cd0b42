use Rattle.lsp_rpc.proofs.WritingLemmas.{one, ◌▹◌}
use Rattle.lsp_rpc.proofs.initialize.write_capabilities.Goals as goal

pub returns : goal.returns
returns c =
    one c.in_ok-begin_object.ensures ▹ c.in_ok-write_yes.ensures ▹ one c.in_ok-key.ensures ▹ c.in_ok-write_diagnostic_options.ensures ▹ one c.in_ok-key-2.ensures ▹ (rw c.encoding_name.ensures at (one c.in_ok-string.ensures)) ▹ c.in_ok-write_yes-2.ensures ▹ c.in_ok-write_yes-3.ensures ▹ one c.in_ok-key-3.ensures ▹ c.in_ok-write_sync_options.ensures ▹ c.in_ok-write_yes-4.ensures ▹ one c.in_ok-end_object.ensures
