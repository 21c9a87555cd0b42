use Rattle.lsp_rpc.proofs.WritingLemmas.{one, ◌▹◌}
use Rattle.lsp_rpc.proofs.location.write_location.Goals as goal

pub returns : goal.returns
returns c = one c.in_ok-begin_object.ensures ▹ one c.in_ok-key.ensures ▹ c.in_ok-write_range.ensures ▹ one c.in_ok-key-2.ensures ▹ one c.in_ok-string.ensures ▹ one c.in_ok-end_object.ensures
