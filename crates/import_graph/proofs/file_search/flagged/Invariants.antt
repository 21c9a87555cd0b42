use Rattle.std.proofs.Common.{◌≡◌, filter, get_or, false}
use Rattle.std.specs.List.{range_with_len}
use Rattle.import_graph.proofs.file_search.flagged.Given as goal

abbrev pub invariant-loop-file : goal.invariant-loop-file
invariant-loop-file l = l.files.items ≡ filter (λ g. get_or l.flags g false) (range_with_len 0 l.file)
