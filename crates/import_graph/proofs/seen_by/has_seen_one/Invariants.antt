use Rattle.std.proofs.Common.{◌≡◌, take, get_or, false}
use Rattle.std.specs.List.{list_any}
use Rattle.import_graph.proofs.seen_by.has_seen_one.Given as goal

abbrev pub invariant-loop-file : goal.invariant-loop-file
invariant-loop-file l = list_any (λ h. get_or l.search.seen.items h false) (take l.file-index l.files) ≡ false
