use Rattle.lsp_frame.proofs.WrittenFrames.{written_is_read}
use Rattle.lsp_frame.proofs.laws.written_is_read.Goals as goal

pub returns : goal.returns
returns c = written_is_read
