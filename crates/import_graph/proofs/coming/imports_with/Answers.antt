use Rattle.std.proofs.Common.{◌≡◌, ◌∙◌, ap, ap₂, sym, subst, ℕ, List, map, get_or}
use Rattle.std.proofs.lemmas.List.Edits.{get_or-insert_at}
use Rattle.std.specs.List.{insert}
use Rattle.proto_decls.specs.declared.fact.FileFacts.{FileFacts}
use Rattle.proto_decls.specs.declared.named_facts.NamedFacts.{NamedFacts}
use Rattle.std.specs.Prelude.{All, length}
use Rattle.import_graph.specs.declared.imports.FileImports.{FileImports}
use Rattle.import_graph.specs.Coming.{file_after}
use Rattle.import_graph.specs.Imports.{graph_of, imports_of, targets}
use Rattle.import_graph.specs.Walks.{AllWithin}
use Rattle.import_graph.proofs.GraphInserted.{graph_inserted}
use Rattle.import_graph.proofs.ImportEdges.{graph_within}
use Rattle.import_graph.proofs.coming.imports_with.Goals as goal

-- a graph with one more file, where the others and that one are known
grown : (at : ℕ) {graph was now : List FileImports} {own new : FileImports} → graph ≡ insert was at own → was ≡ now → own ≡ new → graph ≡ insert now at new
grown at inserted others mine = inserted ∙ ap₂ (λ (files : List FileImports) (file : FileImports). insert files at file) others mine

pub renumber_imports-requires : goal.renumber_imports-requires
renumber_imports-requires c =
    let arrived = c.requires.arrived in
    subst (λ (graph : List FileImports). All (λ file. AllWithin (length graph) (targets file)) graph) (sym arrived.was) (graph_within arrived.others)

pub returns : goal.returns
returns c =
    let at = c.args.at in
    let arrived = c.requires.arrived in
    let facts : c.get.result.now ≡ (let file = arrived.file in file.facts) =
    c.get.ensures ∙ ap (λ (files : List NamedFacts). let file = get_or files at c.index-files-at.result in file.facts) arrived.files_are
    ∙ ap (λ (file : NamedFacts). file.facts) (get_or-insert_at arrived.others at arrived.file c.index-files-at.result arrived.within) in
    let own : c.in_ok-imports_of.field-0 ≡ imports_of (insert arrived.others at arrived.file) (let file = arrived.file in file.facts) =
    c.in_ok-imports_of.ensures ∙ ap₂ (λ (files : List NamedFacts) (f : FileFacts). imports_of files f) arrived.files_are facts in
    grown at c.in_ok-insert.ensures.items (c.renumber_imports.ensures ∙ ap (map (file_after at)) arrived.was) own
    ∙ sym (graph_inserted arrived.others at arrived.file arrived.within arrived.nobody)
    ∙ ap graph_of (sym arrived.files_are)
