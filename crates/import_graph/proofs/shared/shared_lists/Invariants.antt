use Rattle.std.proofs.Common.{◌-◌, length}
use Rattle.import_graph.specs.Shared.{AreShared}
use Rattle.import_graph.proofs.shared.shared_lists.Given as goal

abbrev pub invariant-loop-place : goal.invariant-loop-place
invariant-loop-place l = AreShared l.steps l.imports l.shared

abbrev pub decreases-loop-place : goal.decreases-loop-place
decreases-loop-place l = length l.starts.items - l.place
