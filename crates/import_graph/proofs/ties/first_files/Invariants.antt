use Rattle.std.proofs.Common.{length}
use Rattle.std.specs.Prelude.{All}
use Rattle.import_graph.specs.Walks.{AllWithin}
use Rattle.import_graph.specs.Ties.{IsFirst}
use Rattle.import_graph.proofs.ties.first_files.Given as goal

abbrev pub invariant-loop-file : goal.invariant-loop-file
invariant-loop-file l = record { within : AllWithin (length l.numbers) l.found.items; first : All (IsFirst l.firsts l.numbers) l.found.items }
