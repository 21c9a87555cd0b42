use Rattle.std.proofs.Common.{◌≡◌, ◌+◌, vec_len}
use Rattle.import_graph.specs.Tours.{IsTour}
use Rattle.import_graph.proofs.tour.Tour.enter_later.Given as goal

abbrev pub invariant-loop-file : goal.invariant-loop-file
invariant-loop-file l = record {
  tour : IsTour l.self;
  entered : l.self.entered.items ≡ l.fn.self.entered.items;
  steps : vec_len l.self.steps ≡ vec_len l.fn.self.steps + l.file-index;
}
