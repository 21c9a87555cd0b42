use Rattle.std.proofs.Common.{◌≡◌, filter, not}
use Rattle.std.specs.List.{range_with_len}
use Rattle.import_graph.specs.Closures.{is_complete}
use Rattle.import_graph.proofs.graph.Graph.incomplete.Given as goal

abbrev pub invariant-loop-file : goal.invariant-loop-file
invariant-loop-file l = l.found.items ≡ filter (λ g. not (is_complete l.self g)) (range_with_len 0 l.file)
