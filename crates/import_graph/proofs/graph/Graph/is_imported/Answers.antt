use Rattle.std.proofs.Common.{◌≡◌, ◌∙◌, true, false, refl, sym, ap, subst, ℕ, List, get_or, take, arith}
use Rattle.std.specs.Prelude.{All, bytes_eq}
use Rattle.std.proofs.lemmas.List.{take_all}
use Rattle.std.proofs.lemmas.List.Elements.{All-more}
use Rattle.proto_decls.specs.declared.fact.FileFacts.{FileFacts}
use Rattle.proto_decls.specs.declared.fact.ImportFact.{ImportFact}
use Rattle.import_graph.specs.declared.imports.FileImports.{FileImports}
use Rattle.proto_decls.specs.declared.named_facts.NamedFacts.{NamedFacts}
use Rattle.import_graph.specs.Arrivals.{NobodyImports}
use Rattle.import_graph.specs.Closures.{is_complete}
use Rattle.import_graph.specs.Imports.{graph_of}
use Rattle.import_graph.proofs.NewPaths.{complete_import_others}
use Rattle.import_graph.proofs.graph.Graph.is_imported.Goals.{else-not-is_complete-via-then-not-is_complete+else-have_path, else-not-is_complete-via-else-not-is_complete}
use Rattle.import_graph.proofs.graph.Graph.is_imported.Goals as goal

-- the file imports other paths alone
abbrev ImportsOthers : List ℕ → NamedFacts → Type 0
ImportsOthers path file = All (λ i. bytes_eq i.path path ≡ false) (let facts = file.facts in facts.imports)

pub loop-file-preserved : goal.loop-file-preserved
loop-file-preserved c =
    let files : List NamedFacts = c.args.files.now in
    let path : List ℕ = c.args.path.now in
    let at = c.loop-file.file in
    elim c.else-not-is_complete.branch [
      | else-not-is_complete-via-then-not-is_complete+else-have_path w ↦
          let imports : w.as_slice.result.now ≡ (let file = get_or files at w.index-files-file.result in file.facts.imports) = w.as_slice.ensures ∙ ap (λ (facts : FileFacts). facts.imports) w.get.ensures in
          All-more (ImportsOthers path) files at w.index-files-file.result c.loop-file-test.true c.loop-file.invariant
          (subst (λ (those : List ImportFact). All (λ i. bytes_eq i.path path ≡ false) those) imports (w.have_path.ensures.0 w.if-have_path.false))
      | else-not-is_complete-via-else-not-is_complete w ↦
          let complete : is_complete (graph_of files) at ≡ true =
          ap (λ (graph : List FileImports). is_complete graph at) (sym c.requires.graph) ∙ sym c.is_complete.ensures ∙ w.if-not-is_complete.false in
          λ k d lt. All-more (ImportsOthers path) files at d c.loop-file-test.true c.loop-file.invariant
          (complete_import_others files path c.requires.new at d c.loop-file-test.true complete) k d lt
    ]

pub returns : goal.returns
returns c =
    let whole : take c.loop-file.file c.args.files.now ≡ c.args.files.now = take_all c.loop-file.file c.args.files.now (omega (arith, c.loop-file-test.false)) in
    (λ no. subst (λ (files : List NamedFacts). NobodyImports files c.args.path.now) whole c.loop-file.invariant, λ nobody. refl)
