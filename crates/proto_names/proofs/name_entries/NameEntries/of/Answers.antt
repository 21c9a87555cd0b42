use Rattle.std.proofs.Common.{◌∙◌, ap, append-nil, filter, length, sym}
use Rattle.proto_names.specs.Files.{name_at}
use Rattle.proto_names.proofs.ByLast.{scopes_total}
use Rattle.proto_names.proofs.Same.{same_moved}
use Rattle.proto_names.proofs.name_entries.NameEntries.of.Goals as goal

pub sort_entries-requires : goal.sort_entries-requires
sort_entries-requires c = scopes_total (name_at c.as_slice-3.result.now)

pub invariant_of-result : goal.invariant_of-result
invariant_of-result c = rw c.in_ok-vec.ensures.items (record {
  hashes_are = rw c.as_slice.ensures.value at c.in_ok-hashes.ensures;
  holders_are = λ p.
      ap (λ es. length (filter p es)) (sym (rw c.as_slice-2.ensures.value at c.in_ok-holders.ensures))
      ∙ same_moved c.in_ok-holders.holders.items c.sort_entries.new.entries.items c.sort_entries.ensures.same p
      ∙ ap (λ es. length (filter p es)) (sym (append-nil c.sort_entries.new.entries.items));
})
