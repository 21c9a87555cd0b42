use Rattle.std.proofs.Common.{◌∙◌, subst, sym}
use Rattle.proto_names.specs.Buckets.{AreInBuckets}
use Rattle.proto_names.specs.Files.{name_at}
use Rattle.proto_names.specs.Tables.{by_name, by_scope, holder_entries, name_entries}
use Rattle.proto_names.proofs.Copies.{copied}
use Rattle.proto_names.proofs.name_table.NameTable.copy.Goals as goal

pub invariant_of-result : goal.invariant_of-result
invariant_of-result c =
    let files = c.self.inside.files.items in
    let same = sym (c.in_ok-files.ensures ∙ c.as_slice.ensures.value) in
    record {
      names_are = subst (λ all. AreInBuckets (by_name (name_at all)) (name_entries all) c.in_ok-names.names.list.items) same
          (copied (by_name (name_at files)) (name_entries files) c.self.inside.names.list.items c.in_ok-names.names.list.items c.self.invariant.names_are c.in_ok-names.ensures);
      holders_are = subst (λ all. AreInBuckets (by_scope (name_at all)) (holder_entries all) c.in_ok-holders.holders.list.items) same
          (copied (by_scope (name_at files)) (holder_entries files) c.self.inside.holders.list.items c.in_ok-holders.holders.list.items c.self.invariant.holders_are c.in_ok-holders.ensures);
    }
