use Rattle.std.proofs.Common.{◌-◌}
use Rattle.import_graph.specs.FileSearches.{weight}
use Rattle.import_graph.proofs.Search.{Searches}
use Rattle.import_graph.proofs.file_search.reached.Given as goal

abbrev pub invariant-loop-followed : goal.invariant-loop-followed
invariant-loop-followed l = Searches l.next l.start l.search l.followed

abbrev pub decreases-loop-followed : goal.decreases-loop-followed
decreases-loop-followed l = weight l.search - l.followed
