use Rattle.lsp_rpc.proofs.WritingLemmas.{one, ◌▹◌}
use Rattle.check_lines.proofs.json_line.write_finding.Goals as goal

pub returns : goal.returns
returns c = one c.in_ok-begin_object.ensures ▹ one c.in_ok-key.ensures ▹ (rw c.code.ensures at (one c.in_ok-u64.ensures)) ▹ one c.in_ok-key-2.ensures ▹ c.in_ok-write_place.ensures ▹ one c.in_ok-key-3.ensures ▹ one c.in_ok-string.ensures ▹ one c.in_ok-key-4.ensures ▹ (rw c.text.ensures at (one c.in_ok-string-2.ensures)) ▹ one c.in_ok-key-5.ensures ▹ one c.in_ok-string-3.ensures ▹ one c.in_ok-key-6.ensures ▹ (rw c.severity_word.ensures at (one c.in_ok-string-4.ensures)) ▹ one c.in_ok-key-7.ensures ▹ c.in_ok-write_place-2.ensures ▹ one c.in_ok-end_object.ensures
