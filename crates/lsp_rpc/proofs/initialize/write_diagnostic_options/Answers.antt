use Rattle.lsp_rpc.proofs.WritingLemmas.{one, ◌▹◌}
use Rattle.lsp_rpc.proofs.initialize.write_diagnostic_options.Goals as goal

pub returns : goal.returns
returns c =
    one c.in_ok-begin_object.ensures ▹ c.in_ok-write_yes.ensures ▹ c.in_ok-write_yes-2.ensures ▹ one c.in_ok-end_object.ensures
