use Rattle.piece_collector.proofs.Histories.{cut_at_change}
use Rattle.piece_collector.proofs.laws.last_changes.Goals as goal

pub returns : goal.returns
returns c = cut_at_change
