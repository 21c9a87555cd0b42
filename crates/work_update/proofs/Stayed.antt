-- Links of files that stay as they are in a workspace where others come, leave or get other texts.
use Rattle.std.proofs.Common.{◌≡◌, ◌≢◌, ◌<◌, ◌+◌, ◌++◌, ℕ, Bool, List, [], Option, None, Some, length, get_or, set, drop, sym, ap, subst, ◌∙◌, arith, append-nil}
use Rattle.std.specs.Prelude.{IfSome}
use Rattle.std.proofs.lemmas.List.{length-map, length-set, get_or-set_other}
use Rattle.std.proofs.lemmas.Option.{same_Some}
use Rattle.proto_tree.specs.Read.{value_tree}
use Rattle.import_graph.specs.declared.imports.FileImports.{FileImports}
use Rattle.import_graph.specs.Closures.{view_of}
use Rattle.import_graph.specs.Imports.{graph_of, imports_of}
use Rattle.import_graph.specs.Moves.{place}
use Rattle.piece_collector.specs.Views.{TextAt}
use Rattle.proto_decls.specs.declared.named_facts.NamedFacts.{NamedFacts}
use Rattle.proto_resolve.specs.declared.resolve.Links.{Links}
use Rattle.proto_names.specs.Files.{facts_at}
use Rattle.work_links.specs.Laws.{MovedLaw, MovesAlike, decl_moved}
use Rattle.work_links.specs.Touched.{links_after}
use Rattle.work_index.proofs.Numbered.{made, made_at, made_length}
use Rattle.work_index.proofs.Steps.{made_from}
use Rattle.work_index.specs.declared.analysis.Resolutions.{Resolutions}
use Rattle.work_index.specs.Pieces.{workspace_of}
use Rattle.work_index.specs.Workspace.{Workspace, all_facts, diagnostics_of, named_facts, no_file, resolution_of, source_facts}
use Rattle.work_update.specs.declared.update_files.Earlier.{Earlier}
use Rattle.work_changes.specs.Changes.{no_links}
use Rattle.work_update.specs.Stayed.{HasMoved, IsEarlier, IsEarlierThan, IsSameFile, Stay, WasGraph}
use Rattle.work_changes.proofs.LinkedAgain.{facts_in}

-- a graph has each file of its workspace
pub graph_length : (w : Workspace) → length (graph_of (all_facts w)) ≡ length w
graph_length w = length-map (all_facts w) (λ x. imports_of (all_facts w) x.facts) ∙ length-map w named_facts

module _ (old w : Workspace) (to : List (Option ℕ)) (stayed : Stay old w to) where
  -- a file that stayed was one of the graph
  pub number_within : (before : Option ℕ) (n : ℕ) (graph : Option (List FileImports)) → WasGraph graph (all_facts old) (all_facts w) to → IfSome before (λ g. place to g ≡ Some n)
      → IfSome before (λ g. IfSome graph (λ gs. g < length gs))
  number_within None n graph was moves = tt
  number_within (Some g) n None was moves = tt
  number_within (Some g) n (Some graph) is moves =
      let file : IsSameFile old w g n = stayed g n moves in
      omega (arith, file.there, ap length is, graph_length old)

  same_facts : (g n : ℕ) → place to g ≡ Some n → facts_at (all_facts w) n ≡ facts_at (all_facts old) g
  same_facts g n moves =
      let file : IsSameFile old w g n = stayed g n moves in
      facts_in w n file.here ∙ ap (λ f. source_facts f.1) (sym file.same) ∙ sym (facts_in old g file.there)

  -- one that sees the same files is linked as before but for the numbers
  pub links_moved : MovedLaw → (g n : ℕ) → HasMoved (graph_of (all_facts old)) (graph_of (all_facts w)) to g n → links_after (decl_moved to) (resolution_of old (g, get_or old g no_file)) ≡ resolution_of w (n, get_or w n no_file)
  links_moved law g n moved =
      let file : IsSameFile old w g n = stayed g n moved.moves in
      let text = (get_or old g no_file).1.text in
      let alike : MovesAlike (all_facts old) (all_facts w) g n to = record {
        there = omega (arith, file.there, length-map old named_facts);
        moves = moved.moves;
        imports = moved.imports;
        facts = λ k d less. same_facts (get_or (view_of (graph_of (all_facts old)) g) k d);
      } in
      sym (law (all_facts old) (all_facts w) g n to text (value_tree text) alike) ∙ ap (λ f. resolution_of w (n, f)) file.same

module _ (k : ℕ) (to : List (Option ℕ)) (w : Workspace) (earlier : Earlier) (was : IsEarlier k to w earlier) where
  -- the links of the file k are not needed any more
  pub one_further : IsEarlier (k + 1) to w earlier
  one_further = record {
    old = was.old;
    stayed = was.stayed;
    graph = was.graph;
    count = was.count;
    links = λ g n moves far. was.links g n moves (omega (arith, far));
  }

  -- nor are they there
  pub one_taken : (g : ℕ) → place to g ≡ Some k → (links : List Links) → links ≡ set earlier.links.items g no_links → (later : Earlier) → later.graph ≡ earlier.graph → later.links.items ≡ links → IsEarlier (k + 1) to w later
  one_taken g moves links left later graph_is links_are = record {
    old = was.old;
    stayed = was.stayed;
    graph = subst (λ (graph : Option (List FileImports)). WasGraph graph (all_facts was.old) (all_facts w) to) (sym graph_is) was.graph;
    count = ap length (links_are ∙ left) ∙ length-set earlier.links.items g no_links ∙ was.count;
    links = λ g' n moves' far.
        let apart : g' ≢ g = λ same. absurd (omega (arith, far, same_Some n k (sym moves' ∙ ap (place to) same ∙ moves))) in
        ap (λ links. get_or links g' no_links) (links_are ∙ left) ∙ get_or-set_other earlier.links.items g g' no_links no_links apart ∙ was.links g' n moves' (omega (arith, far));
  }

-- before the first file all links are there
pub none_taken : (old w : Workspace) (to : List (Option ℕ)) → Stay old w to → (earlier : Earlier) → WasGraph earlier.graph (all_facts old) (all_facts w) to → earlier.links.items ≡ made (resolution_of old) old → IsEarlier 0 to w earlier
none_taken old w to stayed earlier graph links = record {
  old = old;
  stayed = stayed;
  graph = graph;
  count = ap length links ∙ made_length (resolution_of old) old;
  links = λ g n moves far.
      let file : IsSameFile old w g n = stayed g n moves in
      ap (λ links. get_or links g no_links) links ∙ made_at (resolution_of old) old g no_links file.there;
}

-- the same beside the table of the files now
pub none_taken_now : (old w : Workspace) (to : List (Option ℕ)) → Stay old w to → (before table : List NamedFacts) → before ≡ all_facts old → table ≡ all_facts w → (earlier : Earlier) → WasGraph earlier.graph before (all_facts w) to → earlier.links.items ≡ made (resolution_of old) old
    → IsEarlierThan 0 to w table earlier
none_taken_now old w to stayed before table was all earlier graph links = record {
  all = all;
  known = none_taken old w to stayed earlier (subst (λ (files : List NamedFacts). WasGraph earlier.graph files (all_facts w) to) was graph) links;
}

-- ---- the files that are linked one after the other

-- what is known of the first k files, and what is left, are all
pub record AreLinkedSoFar (r : Bool) (to : List (Option ℕ)) (ts : List TextAt) (table : List NamedFacts) (earlier : Earlier) (found : Resolutions) (k : ℕ) : Type 0 where
  pub known : IsEarlierThan k to (workspace_of r ts) table earlier
  pub links : found.links.items ++ made_from r (resolution_of (workspace_of r ts)) (0 + k) (drop k ts) ≡ made_from r (resolution_of (workspace_of r ts)) 0 ts
  pub diagnostics : found.diagnostics.items ++ made_from r (diagnostics_of (workspace_of r ts)) (0 + k) (drop k ts) ≡ made_from r (diagnostics_of (workspace_of r ts)) 0 ts

module _ (r : Bool) (to : List (Option ℕ)) (ts : List TextAt) (table : List NamedFacts) (earlier : Earlier) (found : Resolutions) where
  abbrev w : Workspace
  w = workspace_of r ts

  pub none_linked_yet : IsEarlierThan 0 to w table earlier → found.links.items ≡ [] → found.diagnostics.items ≡ [] → AreLinkedSoFar r to ts table earlier found 0
  none_linked_yet known links diagnostics = record {
    known = known;
    links = ap (λ found. found ++ made_from r (resolution_of w) 0 ts) links;
    diagnostics = ap (λ found. found ++ made_from r (diagnostics_of w) 0 ts) diagnostics;
  }

  module _ (k : ℕ) (so_far : AreLinkedSoFar r to ts table earlier found k) (none : drop k ts ≡ []) where
    pub all_linked : found.links.items ≡ made_from r (resolution_of w) 0 ts
    all_linked = sym (append-nil found.links.items) ∙ ap (λ rest. found.links.items ++ made_from r (resolution_of w) (0 + k) rest) (sym none) ∙ so_far.links

    pub all_diagnosed : found.diagnostics.items ≡ made_from r (diagnostics_of w) 0 ts
    all_diagnosed = sym (append-nil found.diagnostics.items) ∙ ap (λ rest. found.diagnostics.items ++ made_from r (diagnostics_of w) (0 + k) rest) (sym none) ∙ so_far.diagnostics
