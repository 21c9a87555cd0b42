use Rattle.std.proofs.Common.{◌≡◌, ℕ, ◌<◌, [], map, filter, take, vec_len}
use Rattle.std.specs.Prelude.{slice_index_or}
use Rattle.std.specs.List.{flat_map}
use Rattle.proto_names.specs.Buckets.{is_in}
use Rattle.proto_names.proofs.buckets.dealt.Given as goal

-- those so far
abbrev pub invariant-loop-run : goal.invariant-loop-run
invariant-loop-run l =
    (vec_len l.lists ≡ l.count)
    × ((n : ℕ) → n < l.count → slice_index_or (map (λ list. list.items) l.lists.items) n [] ≡ filter (is_in l.count n) (flat_map (λ run. run.items) (take l.run-index l.runs)))
