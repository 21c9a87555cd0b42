use Rattle.std.proofs.Common.{◌≡◌, ◌<◌, length, sym, ap, ◌∙◌, List, false, not, subst, arith}
use Rattle.std.specs.Prelude.{IfSome, MatchOption}
use Rattle.import_graph.specs.Closures.{seers_of}
use Rattle.import_graph.specs.Imports.{graph_of}
use Rattle.proto_decls.specs.declared.fact.FileFacts.{FileFacts}
use Rattle.proto_decls.specs.declared.named_facts.NamedFacts.{NamedFacts}
use Rattle.proto_names.specs.Files.{facts_at}
use Rattle.proto_resolve.specs.Outlines.{import_outline}
use Rattle.proto_names.specs.Outlines.{with_facts, exports}
use Rattle.work_links.specs.Touched.{Tells}
use Rattle.work_index.specs.Workspace.{all_facts}
use Rattle.work_changes.specs.Changes.{DifferAt}
use Rattle.work_changes.proofs.Changed.{differ, not_false, told_as}
use Rattle.work_changes.proofs.relinking.take_change.Goals as goal

pub follow-requires-clause-before : goal.follow-requires-clause-before
follow-requires-clause-before c =
    let w = c.args.files.now in
    let files : List NamedFacts = c.args.table in
    let file = c.args.changed in
    let facts = facts_at (all_facts w) file in
    let linked = c.requires.linked in
    let there : file < length files = omega (arith, linked.count, c.requires.within) in
    let here : c.get-facts.result.now ≡ facts = c.get-facts.ensures ∙ c.facts_at-shared.ensures in
    let other : c.in_ok-other.other ≡ facts = c.in_ok-other.ensures ∙ c.facts_at-shared.ensures in
    let told_alike = c.same_exports-exports.result in
    let quiet : not told_alike ≡ false → exports (facts_at files file) ≡ exports facts =
    λ still. sym (ap exports (sym here) ∙ c.same_exports-exports.ensures.0 (not_false told_alike still) ∙ ap exports c.facts.ensures) in
    let tells : IfSome c.in_ok-touched.touched (Tells file (facts_at files file) facts) = rw (← c.facts-2.ensures, ← here) c.in_ok-touched.ensures in
    let after : c.in_ok-table.table ≡ with_facts files file facts = c.in_ok-table.ensures.table ∙ ap (with_facts files file) other in
    let seen_by : seers_of (graph_of c.in_ok-table.table) file ≡ seers_of (graph_of (with_facts files file facts)) file = ap (λ files. seers_of (graph_of files) file) after in
    let graph = subst (λ (f : FileFacts). MatchOption c.in_ok-table.before (import_outline f ≡ import_outline (facts_at files file)) (λ g. g ≡ graph_of files)) other c.in_ok-table.ensures.graph in
    record {
      old = files;
      linked = linked;
      waits = c.requires.waits;
      differ = subst (λ (new : List NamedFacts). DifferAt files new (record { file = file; told = c.in_ok-told.told; before = c.in_ok-table.before })) (sym after)
          (differ files file facts there c.in_ok-table.before c.in_ok-told.told graph
          (told_as c.in_ok-told.told (not told_alike ≡ false) _ _ _ c.in_ok-touched.touched (Tells file (facts_at files file) facts) quiet seen_by tells c.in_ok-told.ensures));
    }

pub returns-clause-table : goal.returns-clause-table
returns-clause-table c = c.in_ok-table.ensures.table ∙ ap (with_facts c.args.table c.args.changed) (c.in_ok-other.ensures ∙ c.facts_at-shared.ensures)
