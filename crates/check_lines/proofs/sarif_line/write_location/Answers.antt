use Rattle.lsp_rpc.proofs.WritingLemmas.{one, ◌▹◌}
use Rattle.check_lines.proofs.sarif_line.write_location.Goals as goal

pub returns : goal.returns
returns c = one c.in_ok-begin_object.ensures ▹ one c.in_ok-key.ensures ▹ one c.in_ok-begin_object-2.ensures ▹ one c.in_ok-key-2.ensures ▹ c.in_ok-write_artifact.ensures ▹ one c.in_ok-key-3.ensures ▹ c.in_ok-write_region.ensures ▹ one c.in_ok-end_object.ensures ▹ one c.in_ok-end_object-2.ensures
