use Rattle.std.proofs.Common.{◌≡◌, vec_len, length, take}
use Rattle.std.specs.Prelude.{All}
use Rattle.import_graph.specs.Walks.{AllWithin}
use Rattle.import_graph.specs.Tours.{IsTurned}
use Rattle.import_graph.proofs.tour.importers.Given as goal

abbrev pub invariant-loop-file : goal.invariant-loop-file
invariant-loop-file l = record { length_is : vec_len l.rows ≡ length l.imports; within : All (AllWithin (length l.imports)) l.rows.items; turned : IsTurned (take l.file l.imports) l.rows.items }
