use Rattle.std.proofs.Common.{◌≡◌, ◌∙◌, ◌<◌, ◌≤◌, ◌++◌, List, filter, length, map, arith}
use Rattle.proto_decls.specs.declared.named_facts.NamedFacts.{NamedFacts}
use Rattle.proto_names.specs.declared.hashed.HashedDecl.{HashedDecl}
use Rattle.proto_names.specs.Buckets.{AreInBuckets}
use Rattle.proto_names.specs.Hashed.{hashed}
use Rattle.proto_names.specs.Files.{name_at}
use Rattle.proto_names.specs.Tables.{by_name, by_scope}
use Rattle.proto_names.proofs.ByLast.{scopes_total}
use Rattle.proto_names.proofs.MovedBuckets.{holds, holders_are_left, holders_are_with, lasts, names_are_left, names_are_with, other_holders_below, other_names_below, others, small_buckets}
use Rattle.proto_names.proofs.Places.{names_total}
use Rattle.proto_names.proofs.name_table.NameTable.without_file.Goals as goal

pub leave_out-requires : goal.leave_out-requires
leave_out-requires c =
    let old : List NamedFacts = c.self.inside.files.items in
    let seen : c.args.self ≡ old = cc in
    let there : c.args.at < length old = rw seen at c.requires in
    let names : List HashedDecl = map (hashed (name_at old)) (others old c.args.at there) in
    let are : AreInBuckets (by_name (name_at old)) (names ++ c.as_slice-3.result.now) c.self.inside.names.list.items =
    names_are_with old c.args.at there c.as_slice-3.result.now c.self.inside.names.list.items (c.as_slice-3.ensures.value ∙ rw c.as_slice.ensures.value at c.in_ok-gone.ensures.names) c.self.invariant.names_are in
    (by_name (name_at old), names_total (name_at old), (names, are))

pub leave_out-requires-2 : goal.leave_out-requires-2
leave_out-requires-2 c =
    let old : List NamedFacts = c.self.inside.files.items in
    let seen : c.args.self ≡ old = cc in
    let there : c.args.at < length old = rw seen at c.requires in
    let holders : List HashedDecl = map (hashed (lasts old)) (filter (holds old) (others old c.args.at there)) in
    let are : AreInBuckets (by_scope (name_at old)) (holders ++ c.as_slice-4.result.now) c.self.inside.holders.list.items =
    holders_are_with old c.args.at there c.as_slice-4.result.now c.self.inside.holders.list.items (c.as_slice-4.ensures.value ∙ rw c.as_slice.ensures.value at c.in_ok-gone.ensures.holders) c.self.invariant.holders_are in
    (by_scope (name_at old), scopes_total (name_at old), (holders, are))

pub renumber-requires : goal.renumber-requires
renumber-requires c =
    let old : List NamedFacts = c.self.inside.files.items in
    let seen : c.args.self ≡ old = cc in
    let there : c.args.at < length old = rw seen at c.requires in
    let few : length old ≤ 18446744073709551615 = omega (arith, c.self.inside.files.ok, c.self.inside.files.small) in
    let names : List HashedDecl = map (hashed (name_at old)) (others old c.args.at there) in
    let are : AreInBuckets (by_name (name_at old)) (names ++ c.as_slice-3.result.now) c.self.inside.names.list.items =
    names_are_with old c.args.at there c.as_slice-3.result.now c.self.inside.names.list.items (c.as_slice-3.ensures.value ∙ rw c.as_slice.ensures.value at c.in_ok-gone.ensures.names) c.self.invariant.names_are in
    small_buckets (by_name (name_at old)) names c.leave_out.new.self.list.items 18446744073709551615 (c.leave_out.ensures (by_name (name_at old)) names (names_total (name_at old)) are)
    (other_names_below old c.args.at there 18446744073709551615 few)

pub renumber-requires-2 : goal.renumber-requires-2
renumber-requires-2 c =
    let old : List NamedFacts = c.self.inside.files.items in
    let seen : c.args.self ≡ old = cc in
    let there : c.args.at < length old = rw seen at c.requires in
    let few : length old ≤ 18446744073709551615 = omega (arith, c.self.inside.files.ok, c.self.inside.files.small) in
    let holders : List HashedDecl = map (hashed (lasts old)) (filter (holds old) (others old c.args.at there)) in
    let are : AreInBuckets (by_scope (name_at old)) (holders ++ c.as_slice-4.result.now) c.self.inside.holders.list.items =
    holders_are_with old c.args.at there c.as_slice-4.result.now c.self.inside.holders.list.items (c.as_slice-4.ensures.value ∙ rw c.as_slice.ensures.value at c.in_ok-gone.ensures.holders) c.self.invariant.holders_are in
    small_buckets (by_scope (name_at old)) holders c.leave_out-2.new.self.list.items 18446744073709551615 (c.leave_out-2.ensures (by_scope (name_at old)) holders (scopes_total (name_at old)) are)
    (other_holders_below old c.args.at there 18446744073709551615 few)

pub invariant_of-result : goal.invariant_of-result
invariant_of-result c =
    let old : List NamedFacts = c.self.inside.files.items in
    let seen : c.args.self ≡ old = cc in
    let there : c.args.at < length old = rw seen at c.requires in
    let names : List HashedDecl = map (hashed (name_at old)) (others old c.args.at there) in
    let names_are : AreInBuckets (by_name (name_at old)) (names ++ c.as_slice-3.result.now) c.self.inside.names.list.items =
    names_are_with old c.args.at there c.as_slice-3.result.now c.self.inside.names.list.items (c.as_slice-3.ensures.value ∙ rw c.as_slice.ensures.value at c.in_ok-gone.ensures.names) c.self.invariant.names_are in
    let holders : List HashedDecl = map (hashed (lasts old)) (filter (holds old) (others old c.args.at there)) in
    let holders_are : AreInBuckets (by_scope (name_at old)) (holders ++ c.as_slice-4.result.now) c.self.inside.holders.list.items =
    holders_are_with old c.args.at there c.as_slice-4.result.now c.self.inside.holders.list.items (c.as_slice-4.ensures.value ∙ rw c.as_slice.ensures.value at c.in_ok-gone.ensures.holders) c.self.invariant.holders_are in
    rw c.remove-2.ensures.items (record {
      names_are = names_are_left old c.args.at there c.leave_out.new.self.list.items c.renumber.new.self.list.items c.renumber.ensures (c.leave_out.ensures (by_name (name_at old)) names (names_total (name_at old)) names_are);
      holders_are = holders_are_left old c.args.at there c.leave_out-2.new.self.list.items c.renumber-2.new.self.list.items c.renumber-2.ensures
          (c.leave_out-2.ensures (by_scope (name_at old)) holders (scopes_total (name_at old)) holders_are);
    })
