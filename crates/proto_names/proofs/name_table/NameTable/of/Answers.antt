use Rattle.std.proofs.Common.{◌∙◌, ap, filter, length, subst, sym}
use Rattle.std.specs.List.{flat_map}
use Rattle.proto_names.specs.Buckets.{AreInBuckets}
use Rattle.proto_names.specs.Entries.{all_entries}
use Rattle.proto_names.specs.Files.{name_at}
use Rattle.proto_names.specs.Tables.{by_name, by_scope, holder_entries}
use Rattle.proto_names.proofs.Entries.{flat_items, named_entries}
use Rattle.proto_names.proofs.InBuckets.{buckets_moved}
use Rattle.proto_names.proofs.name_table.NameTable.of.Goals as goal

pub invariant_of-result : goal.invariant_of-result
invariant_of-result c =
    let files = let files = c.into_parts-files.result.0 in files.items in
    let runs = let runs = c.into_parts-files.result.2 in runs.items in
    record {
      names_are = subst (λ es. AreInBuckets (by_name (name_at files)) es c.in_ok-names.names.list.items)
          (ap all_entries c.into_parts-files.ensures.entries.hashes_are ∙ named_entries files)
          (rw c.as_slice.ensures.value at c.in_ok-names.ensures);
      holders_are = buckets_moved (by_scope (name_at files)) (flat_map (λ run. run.items) runs) (holder_entries files) c.in_ok-holders.holders.list.items
          (λ p. c.into_parts-files.ensures.entries.holders_are p ∙ ap (λ es. length (filter p es)) (sym (flat_items (λ run. run.items) runs)))
          (rw c.as_slice-2.ensures.value at c.in_ok-holders.ensures);
    }
