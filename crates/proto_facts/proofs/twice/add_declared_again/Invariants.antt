use Rattle.std.proofs.Common.{◌≡◌, ◌++◌, ℕ, List, drop, take}
use Rattle.std.specs.List.{filter_map, enumerate_from, list_any}
use Rattle.std.specs.Str.{bytes_eq}
use Rattle.proto_facts.specs.Seen.{has_full_name}
use Rattle.proto_decls.specs.Checks.{judged, judged_at}
use Rattle.proto_decls.specs.Facts.{declared_twice}
use Rattle.proto_facts.proofs.twice.add_declared_again.Given as goal

abbrev pub invariant-names : goal.invariant-names
invariant-names l = record {
  met : (q : List ℕ) → has_full_name l.seen q ≡ list_any (λ e. bytes_eq e.full_name q) (take l.name-index l.decls);
  diags : l.diags ++ filter_map (judged_at declared_twice l.decls) (drop l.name-index (enumerate_from 0 l.decls)) ≡ l.fn.diags ++ judged declared_twice l.decls;
}
