use Rattle.std.proofs.Common.{◌≡◌, vec_len, length}
use Rattle.import_graph.specs.Tours.{IsTour}
use Rattle.import_graph.proofs.tour.leaving_order.Given as goal

abbrev pub invariant-loop-file : goal.invariant-loop-file
invariant-loop-file l = record { tour : IsTour l.tour; length_is : vec_len l.tour.entered ≡ length l.imports }
