use Rattle.std.proofs.Common.{◌≡◌, ◌==◌, take, filter, get_or}
use Rattle.import_graph.proofs.ties.with_number.Given as goal

abbrev pub invariant-loop-file : goal.invariant-loop-file
invariant-loop-file l = l.found ≡ filter (λ g. get_or l.numbers g 0 == l.number) (take l.file-index l.row)
