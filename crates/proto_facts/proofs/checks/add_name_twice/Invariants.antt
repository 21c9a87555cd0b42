use Rattle.std.proofs.Common.{◌≡◌, ◌++◌, drop, take}
use Rattle.std.specs.List.{filter_map, enumerate_from}
use Rattle.proto_decls.specs.Checks.{judged, judged_at, name_twice}
use Rattle.proto_facts.specs.Seen.{AreNames}
use Rattle.proto_facts.proofs.checks.add_name_twice.Given as goal

abbrev pub invariant-names : goal.invariant-names
invariant-names l = record {
  met : AreNames (take l.name-index l.names) l.seen;
  diags : l.diags ++ filter_map (judged_at name_twice l.names) (drop l.name-index (enumerate_from 0 l.names)) ≡ l.fn.diags ++ judged name_twice l.names;
}
