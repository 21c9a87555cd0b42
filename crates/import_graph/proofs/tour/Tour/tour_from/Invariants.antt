use Rattle.std.proofs.Common.{◌≡◌, vec_len}
use Rattle.import_graph.specs.Tours.{IsTour, work}
use Rattle.import_graph.proofs.tour.Tour.tour_from.Given as goal

abbrev pub invariant-loop-step : goal.invariant-loop-step
invariant-loop-step l = record { tour : IsTour l.self; length_is : vec_len l.self.entered ≡ vec_len l.fn.self.entered }

abbrev pub decreases-loop-step : goal.decreases-loop-step
decreases-loop-step l = work l.next l.self
