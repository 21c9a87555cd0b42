use Rattle.std.proofs.Common.{◌≡◌, ◌∙◌, ap, refl, sym}
use Rattle.proto_decls.specs.Facts.{facts_by, facts_of}
use Rattle.proto_names.specs.Files.{facts_at}
use Rattle.proto_names.specs.Outlines.{exports, with_facts}
use Rattle.proto_resolve.specs.Outlines.{import_outline}
use Rattle.proto_resolve.specs.Resolved.{resolved}
use Rattle.proto_tree.specs.Read.{value_tree}
use Rattle.work_index.specs.Workspace.{Source, merged, source_facts}
use Rattle.work_meaning.specs.Edited.{with_text}
use Rattle.work_meaning.specs.Quiet.{IsQuiet}
use Rattle.work_changes.proofs.Changed.{is_put}
use Rattle.work_meaning.proofs.FileByFile.{means-by}
use Rattle.work_meaning.proofs.Quiet.{put-back}
use Rattle.work_meaning.proofs.keeping.keeps_with.Goals as goal

pub set_facts-requires-2-clause-imports : goal.set_facts-requires-2-clause-imports
set_facts-requires-2-clause-imports c =
    let quiet : IsQuiet c.get.result.now c.get-2.result.now = c.if-not-is_quiet.ensures.0 refl in
    let before : c.get.result.now ≡ c.in_ok-another-2.field-0 = c.get.ensures ∙ c.facts.ensures ∙ sym c.facts-3.ensures ∙ sym c.in_ok-another-2.ensures in
    let after : c.get-2.result.now ≡ c.in_ok-another.field-0 = c.get-2.ensures ∙ sym c.in_ok-another.ensures in
    let put : facts_at c.set_facts.new.self c.args.file ≡ c.in_ok-another.field-0 = ap (λ fs. facts_at fs c.args.file) c.set_facts.ensures ∙ is_put c.args.table.now c.args.file c.in_ok-another.field-0 c.requires.file in
    ap import_outline (sym before) ∙ sym quiet.imports_are ∙ ap import_outline (after ∙ sym put)

pub set_facts-requires-2-clause-exports : goal.set_facts-requires-2-clause-exports
set_facts-requires-2-clause-exports c =
    let quiet : IsQuiet c.get.result.now c.get-2.result.now = c.if-not-is_quiet.ensures.0 refl in
    let before : c.get.result.now ≡ c.in_ok-another-2.field-0 = c.get.ensures ∙ c.facts.ensures ∙ sym c.facts-3.ensures ∙ sym c.in_ok-another-2.ensures in
    let after : c.get-2.result.now ≡ c.in_ok-another.field-0 = c.get-2.ensures ∙ sym c.in_ok-another.ensures in
    let put : facts_at c.set_facts.new.self c.args.file ≡ c.in_ok-another.field-0 = ap (λ fs. facts_at fs c.args.file) c.set_facts.ensures ∙ is_put c.args.table.now c.args.file c.in_ok-another.field-0 c.requires.file in
    ap exports (sym before) ∙ sym quiet.exports_are ∙ ap exports (after ∙ sym put)

pub returns-clause-table : goal.returns-clause-table
returns-clause-table c =
    let table = c.args.table.now in
    let file = c.args.file in
    let other = c.in_ok-another.field-0 in
    let own : c.in_ok-another-2.field-0 ≡ facts_at table file = c.in_ok-another-2.ensures ∙ c.facts-3.ensures ∙ c.requires.source in
    c.set_facts-2.ensures ∙ ap (λ fs. with_facts fs file c.in_ok-another-2.field-0) c.set_facts.ensures ∙ ap (with_facts (with_facts table file other) file) own ∙ put-back table file other c.requires.file

pub returns-clause-keeps : goal.returns-clause-keeps
returns-clause-keeps c =
    let table = c.args.table.now in
    let file = c.args.file in
    let text = c.args.text.now in
    let now : Source = with_text c.args.source.now.1 text in
    let read : c.in_ok-tree.field-0.facts ≡ source_facts now = c.in_ok-tree.ensures.facts ∙ ap (λ r. facts_by r text) c.reads_others.ensures in
    let said : c.in_ok-another.field-0 ≡ source_facts now = c.in_ok-another.ensures ∙ read in
    let known : c.get-3.result.now ≡ source_facts now = c.get-3.ensures ∙ read in
    let all : c.set_facts.new.self ≡ with_facts table file (source_facts now) = c.set_facts.ensures ∙ ap (with_facts table file) said in
    let tree : c.in_ok-tree.tree ≡ value_tree text = cc (c.in_ok-tree.tree-is, c.in_ok-tree.ensures.tree) in
    let linked : c.in_ok-links.links ≡ resolved (with_facts table file (source_facts now)) file text (value_tree text) = cc (c.in_ok-links.ensures, all, tree) in
    means-by c.args.earlier.now file _ _ _ _ _ linked (c.as_slice.ensures ∙ c.in_ok-diagnostics.ensures now known ∙ ap (merged (facts_of text)) linked) c.means.ensures

pub returns-then-not-is_quiet-clause-other : goal.returns-then-not-is_quiet-clause-other
returns-then-not-is_quiet-clause-other c = λ none quiet.
    let before : c.get.result.now ≡ facts_at c.args.table.now c.args.file = c.get.ensures ∙ c.facts.ensures ∙ c.requires.source in
    let after : c.get-2.result.now ≡ source_facts (with_text c.args.source.now.1 c.args.text.now) = c.get-2.ensures ∙ c.in_ok-tree.ensures.facts ∙ ap (λ r. facts_by r c.args.text.now) c.reads_others.ensures in
    let same : IsQuiet c.get.result.now c.get-2.result.now = record {
      exports_are = ap exports after ∙ quiet.exports_are ∙ sym (ap exports before);
      imports_are = ap import_outline after ∙ quiet.imports_are ∙ sym (ap import_outline before);
    } in
    absurd (cc (c.if-not-is_quiet.ensures.1 same))
