use Rattle.std.proofs.Common.{◌≡◌, [], vec_len}
use Rattle.std.specs.Prelude.{All}
use Rattle.proto_names.proofs.buckets.lists_for.Given as goal

-- one for each count so far
abbrev pub invariant-loop-count : goal.invariant-loop-count
invariant-loop-count l = (vec_len l.lists ≡ l.count-index) × All (λ list. list.items ≡ []) l.lists.items
