use Rattle.std.proofs.Common.{◌≡◌, filter}
use Rattle.std.specs.List.{range_with_len}
use Rattle.import_graph.proofs.Seers.{is_importing}
use Rattle.import_graph.proofs.seen_by.importing.Given as goal

abbrev pub invariant-loop-importer : goal.invariant-loop-importer
invariant-loop-importer l = l.found.items ≡ filter (is_importing l.imports l.search) (range_with_len 0 l.importer)
