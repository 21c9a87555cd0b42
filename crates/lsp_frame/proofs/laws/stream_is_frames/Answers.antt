use Rattle.lsp_frame.proofs.Splits.{all_frames, only_frames, in_turn}
use Rattle.lsp_frame.proofs.laws.stream_is_frames.Goals as goal

pub returns-clause-there : goal.returns-clause-there
returns-clause-there c = all_frames

pub returns-clause-only : goal.returns-clause-only
returns-clause-only c = only_frames

pub returns-clause-in_turn : goal.returns-clause-in_turn
returns-clause-in_turn c = in_turn
