use Rattle.lsp_rpc.proofs.WritingLemmas.{one, ◌▹◌}
use Rattle.check_lines.proofs.sarif_line.write_message.Goals as goal

pub returns : goal.returns
returns c = one c.in_ok-begin_object.ensures ▹ one c.in_ok-key.ensures ▹ one c.in_ok-string.ensures ▹ one c.in_ok-end_object.ensures
