use Rattle.lsp_frame.proofs.Ends.{streams_show_their_faults}
use Rattle.lsp_frame.proofs.laws.stream_shows_its_fault.Goals as goal

pub returns : goal.returns
returns c = streams_show_their_faults
