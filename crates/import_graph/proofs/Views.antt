-- What the marks of a search say of a graph.
use Rattle.std.proofs.Common.{◌≡◌, ◌⊎◌, inl, inr, ⊎_elim, ◌↔◌, ℕ, ◌<◌, List, [], ◌∷◌, length, get_or, Option, Some, None, map, filter, sym, subst, ◌∙◌, arith}
use Rattle.std.specs.Prelude.{All, Contains}
use Rattle.std.proofs.lemmas.List.{length-map, get_or_default}
use Rattle.std.proofs.lemmas.List.Elements.{All-map, All-contains, All-get_or}
use Rattle.import_graph.specs.declared.imports.FileImports.{FileImports}
use Rattle.import_graph.specs.Imports.{edges_at, target_at, targets, public_targets}
use Rattle.import_graph.specs.Views.{Imports, Sees, Reaches}
use Rattle.import_graph.specs.Walks.{AllWithin, ReachedFrom}
use Rattle.import_graph.proofs.ImportEdges.{filter_map_all, filter_map_to, filter_from, here, here_or_next, in_map, imports_listed, public_listed, targets_at, walk_map}

abbrev pub Within : List FileImports → Type 0
Within graph = All (λ file. AllWithin (length graph) (targets file)) graph

-- what an import names is imported
pub target_imported : (graph : List FileImports) (f i g : ℕ) → i < length (edges_at graph f) → target_at graph f i ≡ Some g → Imports graph f g
target_imported graph f i g below e =
    let ts : List (Option ℕ) = map (λ l. l.target) (edges_at graph f) in
    let in_ts : i < length ts = rw length-map below in
    let named : Contains ts (Some g) = (i, in_ts, get_or_default ts i (Some g) None in_ts ∙ e) in
    in_map (λ l. l.target) (edges_at graph f) (Some g) named

module _ (graph : List FileImports) (within : Within graph) where
  -- the lists of a search stay within the graph
  pub imports_within : All (AllWithin (length (map targets graph))) (map targets graph)
  imports_within = subst (λ (n : ℕ). All (AllWithin n) (map targets graph)) (sym (length-map graph targets)) (All-map (AllWithin (length graph)) targets graph within)

  pub public_of : (file : FileImports) → AllWithin (length graph) (targets file) → AllWithin (length graph) (public_targets file)
  public_of file all = filter_map_all (λ l. l.target) (λ g. g < length graph) (filter (λ l. l.is_public) file.edges)
      (λ l g has e. All-contains (λ g. g < length graph) (targets file) g all (filter_map_to (λ l. l.target) file.edges l g (filter_from (λ l. l.is_public) file.edges l has).0 e))

  pub public_within : All (AllWithin (length (map public_targets graph))) (map public_targets graph)
  public_within = subst (λ (n : ℕ). All (AllWithin n) (map public_targets graph)) (sym (length-map graph public_targets)) (All-map (AllWithin (length graph)) public_targets graph (λ k d lt. public_of (get_or graph k d) (within k d lt)))

  -- a file's own list too
  pub start_within : (f : ℕ) → f < length graph → AllWithin (length graph) (get_or (map targets graph) f [])
  start_within f lt = All-get_or (AllWithin (length graph)) (map targets graph) f [] (rw length-map lt) (All-map (AllWithin (length graph)) targets graph within)

  -- what an import names is there
  pub target_within : (f i g : ℕ) → f < length graph → i < length (edges_at graph f) → target_at graph f i ≡ Some g → g < length graph
  target_within f i g lt below e =
      let l = target_imported graph f i g below e in
      All-contains (λ x. x < length graph) (get_or (map targets graph) f []) g (start_within f lt)
      (rw targets_at (filter_map_to (λ x. x.target) (edges_at graph f) l.0 g l.1 l.2))

-- from one file
pub reaches_listed : (graph : List FileImports) (f g : ℕ) → ReachedFrom (map targets graph) (f ∷ []) g ↔ Reaches graph f g
reaches_listed graph f g = (
  λ (h, has, walk). ⊎_elim
      (λ same. let by = walk_map (λ a b. (imports_listed graph a b).0) walk in subst (λ (x : ℕ). Reaches graph x g) (sym same) by)
      (λ bad. absurd (omega (arith, bad.1)))
      (here_or_next f h [] has),
  λ walk. (f, here f [], walk_map (λ a b. (imports_listed graph a b).1) walk),
)

-- from the imports of a file, publicly
pub sees_listed : (graph : List FileImports) (f g : ℕ) → (g ≡ f) ⊎ ReachedFrom (map public_targets graph) (get_or (map targets graph) f []) g ↔ Sees graph f g
sees_listed graph f g = (
  λ s. ⊎_elim inl (λ (h, has, walk). inr (h, (imports_listed graph f h).0 has, walk_map (λ a b. (public_listed graph a b).0) walk)) s,
  λ s. ⊎_elim inl (λ (h, has, walk). inr (h, (imports_listed graph f h).1 has, walk_map (λ a b. (public_listed graph a b).1) walk)) s,
)

-- what that search finds, and the file itself
pub sees_by_search : (graph : List FileImports) (f : ℕ) (found : ℕ → Type 0) → ((g : ℕ) → found g ↔ ReachedFrom (map public_targets graph) (get_or (map targets graph) f []) g)
    → (g : ℕ) → ((g ≡ f) ⊎ found g) ↔ Sees graph f g
sees_by_search graph f found exact g = (
  λ s. (sees_listed graph f g).0 (⊎_elim inl (λ by. inr ((exact g).0 by)) s),
  λ sees. ⊎_elim inl (λ reached. inr ((exact g).1 reached)) ((sees_listed graph f g).1 sees),
)
