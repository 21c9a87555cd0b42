use Rattle.lsp_rpc.proofs.WritingLemmas.{one, ◌▹◌}
use Rattle.check_lines.proofs.sarif_line.write_result.Goals as goal

pub returns : goal.returns
returns c = one c.in_ok-begin_object.ensures ▹ one c.in_ok-key.ensures ▹ (rw c.level_word.ensures at (one c.in_ok-string.ensures)) ▹ one c.in_ok-key-2.ensures ▹ one c.in_ok-begin_array.ensures ▹ c.in_ok-write_location.ensures ▹ one c.in_ok-end_array.ensures ▹ one c.in_ok-key-3.ensures ▹ (rw c.text.ensures at c.in_ok-write_message.ensures) ▹ one c.in_ok-key-4.ensures ▹ (rw c.code.ensures at (one c.in_ok-quoted_u64.ensures)) ▹ one c.in_ok-end_object.ensures
