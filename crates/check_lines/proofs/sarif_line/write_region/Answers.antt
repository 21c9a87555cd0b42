use Rattle.lsp_rpc.proofs.WritingLemmas.{one, ◌▹◌}
use Rattle.check_lines.proofs.sarif_line.write_region.Goals as goal

pub returns : goal.returns
returns c = one c.in_ok-begin_object.ensures ▹ one c.in_ok-key.ensures ▹ one c.in_ok-write_after.ensures ▹ one c.in_ok-key-2.ensures ▹ one c.in_ok-write_after-2.ensures ▹ one c.in_ok-key-3.ensures ▹ one c.in_ok-write_after-3.ensures ▹ one c.in_ok-key-4.ensures ▹ one c.in_ok-write_after-4.ensures ▹ one c.in_ok-end_object.ensures
