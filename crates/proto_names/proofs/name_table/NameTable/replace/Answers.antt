use Rattle.std.proofs.Common.{◌≡◌, ◌∙◌, ◌<◌, List, ap, length}
use Rattle.proto_decls.specs.declared.fact.FileFacts.{FileFacts}
use Rattle.proto_decls.specs.declared.named_facts.NamedFacts.{NamedFacts}
use Rattle.proto_names.specs.Outlines.{with_facts}
use Rattle.proto_names.proofs.Outlines.{facts_set}
use Rattle.proto_names.proofs.Replaced.{holders_were, kept_there, names_were}
use Rattle.proto_names.proofs.name_table.NameTable.replace.Goals as goal

pub entries_beside-requires-2-clause-kept : goal.entries_beside-requires-2-clause-kept
entries_beside-requires-2-clause-kept c =
    let old : List NamedFacts = c.self.inside.files.items in
    let seen : c.args.self ≡ old = cc in
    let there : c.args.file < length old = rw seen at c.requires in
    let kept = kept_there old c.args.file c.index.result.now c.args.facts c.as_slice.result.now c.as_slice-2.result.now c.kept_of-kept.result.front c.kept_of-kept.result.back there c.index.ensures
    (c.as_slice.ensures ∙ ap (λ (fs : FileFacts). fs.decls) c.get.ensures) (c.as_slice-2.ensures ∙ ap (λ (fs : FileFacts). fs.decls) c.get-2.ensures) c.kept_of-kept.ensures in
    let new : c.as_slice-4.result.now ≡ with_facts old c.args.file c.args.facts = c.as_slice-4.ensures.value ∙ facts_set old c.args.file c.index_mut.result.now c.args.facts there c.index_mut.ensures.value in
    rw new kept.within_after

pub with_entries-requires-clause-names : goal.with_entries-requires-clause-names
with_entries-requires-clause-names c =
    let old : List NamedFacts = c.self.inside.files.items in
    let seen : c.args.self ≡ old = cc in
    let there : c.args.file < length old = rw seen at c.requires in
    let kept = kept_there old c.args.file c.index.result.now c.args.facts c.as_slice.result.now c.as_slice-2.result.now c.kept_of-kept.result.front c.kept_of-kept.result.back there c.index.ensures
    (c.as_slice.ensures ∙ ap (λ (fs : FileFacts). fs.decls) c.get.ensures) (c.as_slice-2.ensures ∙ ap (λ (fs : FileFacts). fs.decls) c.get-2.ensures) c.kept_of-kept.ensures in
    let new : c.as_slice-4.result.now ≡ with_facts old c.args.file c.args.facts = c.as_slice-4.ensures.value ∙ facts_set old c.args.file c.index_mut.result.now c.args.facts there c.index_mut.ensures.value in
    rw (facts_set old c.args.file c.index_mut.result.now c.args.facts there c.index_mut.ensures.value)
    (names_were old c.args.file c.args.facts there c.kept_of-kept.result.front c.kept_of-kept.result.back kept c.in_ok-gone.gone.names.items c.in_ok-come.come.names.items c.self.inside.names.list.items
    (rw c.as_slice-3.ensures.value at c.in_ok-gone.ensures.names) (rw new at c.in_ok-come.ensures.names) c.self.invariant.names_are)

pub with_entries-requires-clause-holders : goal.with_entries-requires-clause-holders
with_entries-requires-clause-holders c =
    let old : List NamedFacts = c.self.inside.files.items in
    let seen : c.args.self ≡ old = cc in
    let there : c.args.file < length old = rw seen at c.requires in
    let kept = kept_there old c.args.file c.index.result.now c.args.facts c.as_slice.result.now c.as_slice-2.result.now c.kept_of-kept.result.front c.kept_of-kept.result.back there c.index.ensures
    (c.as_slice.ensures ∙ ap (λ (fs : FileFacts). fs.decls) c.get.ensures) (c.as_slice-2.ensures ∙ ap (λ (fs : FileFacts). fs.decls) c.get-2.ensures) c.kept_of-kept.ensures in
    let new : c.as_slice-4.result.now ≡ with_facts old c.args.file c.args.facts = c.as_slice-4.ensures.value ∙ facts_set old c.args.file c.index_mut.result.now c.args.facts there c.index_mut.ensures.value in
    rw (facts_set old c.args.file c.index_mut.result.now c.args.facts there c.index_mut.ensures.value)
    (holders_were old c.args.file c.args.facts there c.kept_of-kept.result.front c.kept_of-kept.result.back kept c.in_ok-gone.gone.holders.items c.in_ok-come.come.holders.items c.self.inside.holders.list.items
    (rw c.as_slice-3.ensures.value at c.in_ok-gone.ensures.holders) (rw new at c.in_ok-come.ensures.holders) c.self.invariant.holders_are)
