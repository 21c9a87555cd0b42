use Rattle.std.proofs.Common.{◌≡◌, ◌++◌, drop}
use Rattle.std.specs.List.{filter_map, enumerate_from}
use Rattle.proto_decls.specs.Checks.{judged, judged_at, range_twice}
use Rattle.proto_facts.proofs.overlaps.add_overlaps.Given as goal

abbrev pub invariant-good : goal.invariant-good
invariant-good l = l.diags ++ filter_map (judged_at range_twice l.good) (drop l.i (enumerate_from 0 l.good)) ≡ l.fn.diags ++ judged range_twice l.good
