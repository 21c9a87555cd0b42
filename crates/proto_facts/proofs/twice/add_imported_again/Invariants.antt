use Rattle.std.proofs.Common.{◌≡◌, ◌++◌, ℕ, List, drop, take}
use Rattle.std.specs.List.{filter_map, enumerate_from, list_any}
use Rattle.std.specs.Str.{bytes_eq}
use Rattle.proto_facts.specs.Seen.{has_name}
use Rattle.proto_decls.specs.Checks.{judged, judged_at}
use Rattle.proto_decls.specs.Facts.{imported_twice}
use Rattle.proto_facts.proofs.twice.add_imported_again.Given as goal

abbrev pub invariant-names : goal.invariant-names
invariant-names l = record {
  met : (q : List ℕ) → has_name l.seen q ≡ list_any (λ e. bytes_eq e.path q) (take l.name-index l.imports);
  diags : l.diags ++ filter_map (judged_at imported_twice l.imports) (drop l.name-index (enumerate_from 0 l.imports)) ≡ l.fn.diags ++ judged imported_twice l.imports;
}
