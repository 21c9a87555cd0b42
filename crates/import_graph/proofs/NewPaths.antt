-- A path that none of the files has: no file of which all imports name files imports it.
use Rattle.std.proofs.Common.{◌≡◌, ◌∙◌, inl, inr, ap, sym, refl, ℕ, ◌<◌, List, [], ◌∷◌, Bool, true, false, Option, Some, None, map, length, get_or, nat_eq, arith}
use Rattle.std.specs.Prelude.{All, position, bytes_eq}
use Rattle.std.specs.List.{list_all, starts_with}
use Rattle.std.proofs.lemmas.Bool.{cases_Bool, false_from_ne_true}
use Rattle.std.proofs.lemmas.List.{get_or-map, length-map}
use Rattle.std.proofs.lemmas.List.Elements.{All-weaker}
use Rattle.std.proofs.lemmas.List.Folds.{list_all-map}
use Rattle.std.proofs.lemmas.List.Sums.{AllPass-from_list_all}
use Rattle.std.proofs.lemmas.Slice.Eq.{bytes_eq-Decides}
use Rattle.proto_decls.specs.declared.fact.ImportFact.{ImportFact}
use Rattle.import_graph.specs.declared.imports.FileImports.{FileImports}
use Rattle.import_graph.specs.declared.imports.ImportEdge.{ImportEdge}
use Rattle.proto_decls.specs.declared.named_facts.NamedFacts.{NamedFacts}
use Rattle.import_graph.specs.Closures.{is_complete}
use Rattle.import_graph.specs.Imports.{edge_of, edges_at, graph_of, imports_of, is_analysed}
use Rattle.import_graph.specs.Paths.{file_named, slash}

-- the imports of a file, which is there, name files
edges_of : (files : List NamedFacts) (f : ℕ) (d : NamedFacts) → f < length files → edges_at (graph_of files) f ≡ map (edge_of files) (let file = get_or files f d in file.facts.imports)
edges_of files f d lt =
    let none : FileImports = imports_of files (let file = d in file.facts) in
    get_or-map (λ (file : FileImports). file.edges) (graph_of files) f none [] (omega (arith, lt, length-map files (λ x. imports_of files x.facts)))
    ∙ ap (λ (file : FileImports). file.edges) (get_or-map (λ (x : NamedFacts). imports_of files x.facts) files f d none lt)

module _ (files : List NamedFacts) (path : List ℕ) (new : position (λ file. bytes_eq file.path path) files ≡ None) where
  none_has_it : (g : ℕ) → file_named files path ≡ Some g → ⊥
  none_has_it g e = elim (cases_Bool (starts_with nat_eq path (slash ∷ []))) [
    | inl rooted ↦ let bad : None ≡ Some g = rw rooted at e in cc (bad)
    | inr plain ↦ let there : position (λ file. bytes_eq file.path path) files ≡ Some g = rw plain at e in cc (there, new)
  ]

  names_another : (graph : List FileImports) (text : List ℕ) → is_analysed graph (file_named files text) ≡ true → bytes_eq text path ≡ false
  names_another graph text asked = named (file_named files text) refl asked
    where
      named : (t : Option ℕ) → file_named files text ≡ t → is_analysed graph t ≡ true → bytes_eq text path ≡ false
      named None e never = absurd (cc (never))
      named (Some g) e asked = false_from_ne_true (bytes_eq text path) (λ same.
          let is : text ≡ path = (bytes_eq-Decides text path).0 same in
          none_has_it g (ap (file_named files) (sym is) ∙ e))

  pub complete_import_others : (f : ℕ) (d : NamedFacts) → f < length files → is_complete (graph_of files) f ≡ true
      → All (λ i. bytes_eq i.path path ≡ false) (let file = get_or files f d in file.facts.imports)
  complete_import_others f d lt complete =
      let imports : List ImportFact = (let file = get_or files f d in file.facts.imports) in
      let asked : ImportEdge → Bool = λ l. is_analysed (graph_of files) l.target in
      let all : list_all (λ i. asked (edge_of files i)) imports ≡ true =
      sym (list_all-map asked (edge_of files) imports) ∙ ap (list_all asked) (sym (edges_of files f d lt)) ∙ complete in
      All-weaker (λ i. asked (edge_of files i) ≡ true) (λ i. bytes_eq i.path path ≡ false) (λ i named. names_another (graph_of files) i.path named) imports
      (AllPass-from_list_all (λ i. asked (edge_of files i)) imports all)
