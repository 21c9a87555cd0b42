use Rattle.std.proofs.Common.{◌≡◌, ◌∙◌, ◌≤◌, List, length, arith}
use Rattle.std.specs.List.{insert}
use Rattle.proto_decls.specs.declared.named_facts.NamedFacts.{NamedFacts}
use Rattle.proto_names.specs.Files.{name_at}
use Rattle.proto_names.specs.Tables.{by_name, by_scope, holder_entries, name_entries}
use Rattle.proto_names.proofs.MovedBuckets.{holders_below, holders_were, names_below, names_were, small_buckets}
use Rattle.proto_names.proofs.name_table.NameTable.with_file.Goals as goal

pub make_way-requires : goal.make_way-requires
make_way-requires c = λ k d lt k' d' lt'.
    let old : List NamedFacts = c.self.inside.files.items in
    let below = small_buckets (by_name (name_at old)) (name_entries old) c.self.inside.names.list.items (length old) c.self.invariant.names_are (names_below old (length old) (omega arith)) in
    omega (arith, below k d lt k' d' lt', c.len.ensures, c.in_ok-insert.ensures.len, c.self.inside.files.ok)

pub make_way-requires-2 : goal.make_way-requires-2
make_way-requires-2 c = λ k d lt k' d' lt'.
    let old : List NamedFacts = c.self.inside.files.items in
    let below = small_buckets (by_scope (name_at old)) (holder_entries old) c.self.inside.holders.list.items (length old) c.self.invariant.holders_are (holders_below old (length old) (omega arith)) in
    omega (arith, below k d lt k' d' lt', c.len-2.ensures, c.in_ok-insert.ensures.len, c.self.inside.files.ok)

pub with_entries-requires-clause-names : goal.with_entries-requires-clause-names
with_entries-requires-clause-names c =
    let old : List NamedFacts = c.self.inside.files.items in
    let seen : c.args.self ≡ old = cc in
    let within : c.args.at ≤ length old = rw seen at c.requires in
    let new : c.as_slice.result.now ≡ insert old c.args.at c.args.file = c.as_slice.ensures.value ∙ c.in_ok-insert.ensures.items in
    rw (c.in_ok-insert.ensures.items, c.new.ensures.items)
    (names_were old c.args.at c.args.file within c.in_ok-come.come.names.items c.self.inside.names.list.items c.make_way.new.self.list.items (rw new at c.in_ok-come.ensures.names) c.make_way.ensures
    c.self.invariant.names_are)

pub with_entries-requires-clause-holders : goal.with_entries-requires-clause-holders
with_entries-requires-clause-holders c =
    let old : List NamedFacts = c.self.inside.files.items in
    let seen : c.args.self ≡ old = cc in
    let within : c.args.at ≤ length old = rw seen at c.requires in
    let new : c.as_slice.result.now ≡ insert old c.args.at c.args.file = c.as_slice.ensures.value ∙ c.in_ok-insert.ensures.items in
    rw (c.in_ok-insert.ensures.items, c.new-2.ensures.items)
    (holders_were old c.args.at c.args.file within c.in_ok-come.come.holders.items c.self.inside.holders.list.items c.make_way-2.new.self.list.items (rw new at c.in_ok-come.ensures.holders) c.make_way-2.ensures
    c.self.invariant.holders_are)
