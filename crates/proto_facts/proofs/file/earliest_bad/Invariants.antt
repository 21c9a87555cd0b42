use Rattle.std.proofs.Common.{◌≡◌, ◌||◌, ℕ, drop}
use Rattle.std.specs.Prelude.{nat_lt}
use Rattle.std.specs.List.{list_any, filter_map}
use Rattle.proto_decls.specs.Facts.{bad_start}
use Rattle.proto_facts.proofs.file.earliest_bad.Given as goal

abbrev pub invariant-faults : goal.invariant-faults
invariant-faults l = (x : ℕ) → (nat_lt l.least x || list_any (λ s. nat_lt s x) (filter_map (λ f. bad_start f.problem f.span) (drop l.fault-index l.faults)))
    ≡ (nat_lt l.start x || list_any (λ s. nat_lt s x) (filter_map (λ f. bad_start f.problem f.span) l.faults))
