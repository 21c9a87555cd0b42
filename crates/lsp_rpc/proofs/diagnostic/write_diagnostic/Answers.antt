use Rattle.lsp_rpc.proofs.WritingLemmas.{one, ◌▹◌}
use Rattle.lsp_rpc.proofs.diagnostic.write_diagnostic.Goals as goal

pub returns : goal.returns
returns c = one c.in_ok-begin_object.ensures ▹ one c.in_ok-key.ensures ▹ one c.in_ok-u64.ensures ▹ one c.in_ok-key-2.ensures ▹ one c.in_ok-string.ensures ▹ one c.in_ok-key-3.ensures ▹ c.in_ok-write_range.ensures ▹ one c.in_ok-key-4.ensures ▹ (rw c.number.ensures at (one c.in_ok-u64-2.ensures)) ▹ one c.in_ok-key-5.ensures ▹ one c.in_ok-string-2.ensures ▹ one c.in_ok-end_object.ensures
