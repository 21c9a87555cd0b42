use Rattle.std.proofs.Common.{◌≡◌, ◌++◌, ℕ, drop, take}
use Rattle.std.specs.BTreeSet.{contains}
use Rattle.std.specs.List.{filter_map, enumerate_from, list_any}
use Rattle.std.specs.Ordering.{nat_cmp}
use Rattle.proto_decls.specs.Checks.{judged, judged_at, number_used, is_value}
use Rattle.proto_facts.proofs.checks.add_number_used.Given as goal

abbrev pub invariant-members : goal.invariant-members
invariant-members l = record {
  met : (q : ℕ) → contains nat_cmp l.seen q ≡ list_any (λ e. is_value q e.value) (take l.member-index l.members);
  diags : l.diags ++ filter_map (judged_at (number_used l.numbering) l.members) (drop l.member-index (enumerate_from 0 l.members)) ≡ l.fn.diags ++ judged (number_used l.numbering) l.members;
}
