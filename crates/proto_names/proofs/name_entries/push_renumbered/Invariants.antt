use Rattle.std.proofs.Common.{◌≡◌, ◌++◌, map}
use Rattle.proto_names.specs.Entries.{with_renumbered}
use Rattle.proto_names.proofs.name_entries.push_renumbered.Given as goal

-- those so far
abbrev pub invariant-loop-run : goal.invariant-loop-run
invariant-loop-run l = (l.yielded ++ l.run-iterator.rest.items ≡ l.fn.runs.items) × (map (λ run. run.items) l.found.items ≡ map (λ run. run.items) l.fn.found.items ++ map (λ run. map (with_renumbered l.by) run.items) l.yielded)
