use Rattle.std.proofs.Common.{◌≡◌, take, vec_len}
use Rattle.std.specs.Prelude.{All}
use Rattle.import_graph.specs.Walks.{AllWithin}
use Rattle.import_graph.specs.Tours.{Adds}
use Rattle.import_graph.proofs.tour.add_to_all.Given as goal

abbrev pub invariant-loop-target : goal.invariant-loop-target
invariant-loop-target l = record { length_is : vec_len l.rows ≡ vec_len l.fn.rows; within : All (AllWithin (vec_len l.fn.rows)) l.rows.items; adds : Adds l.fn.rows.items l.rows.items (take l.target-index l.targets) l.file }
