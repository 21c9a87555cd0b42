use Rattle.std.specs.Prelude.{All}
use Rattle.import_graph.specs.Shared.{IsStart}
use Rattle.import_graph.proofs.shared.starts_of.Given as goal

abbrev pub invariant-loop-file : goal.invariant-loop-file
invariant-loop-file l = All (IsStart l.representatives l.imports) l.starts.items
