-- Where another file comes behind all that are named, no number changes.
use Rattle.std.proofs.Common.{◌≡◌, ap, ap₂, refl, ◌<◌, ◌≤◌, ℕ, List, [], ◌∷◌, Option, Some, None, map, arith}
use Rattle.std.specs.Prelude.{All, Contains, IfSome, option_map}
use Rattle.std.specs.List.{filter_map}
use Rattle.std.proofs.lemmas.List.Elements.{All-contains}
use Rattle.import_graph.specs.declared.imports.FileImports.{FileImports}
use Rattle.import_graph.specs.declared.imports.ImportEdge.{ImportEdge}
use Rattle.import_graph.specs.Coming.{edge_after, file_after, number_after}
use Rattle.import_graph.specs.Imports.{targets}
use Rattle.import_graph.specs.Walks.{AllWithin}
use Rattle.import_graph.proofs.ImportEdges.{here, next}
use Rattle.import_graph.proofs.Renumbered.{before_it, named_small}

-- a list stays if each of its elements does
stays : {X : Type 0} (f : X → X) (xs : List X) → ((x : X) → Contains xs x → f x ≡ x) → map f xs ≡ xs
stays f [] each = refl
stays {X} f (x ∷ xs) each = ap₂ (λ (y : X) (ys : List X). y ∷ ys) (each x (here x xs)) (stays f xs (λ y has. each y (next x y xs has)))

module _ (at count : ℕ) (behind : count ≤ at) where
  row_stays : (row : List ℕ) → AllWithin count row → map (number_after at) row ≡ row
  row_stays row within = stays (number_after at) row (λ g has. let lt = All-contains (λ f. f < count) row g within has in before_it at g (omega (arith, behind, lt)))

  pub rows_stay : (rows : List (List ℕ)) → All (AllWithin count) rows → map (map (number_after at)) rows ≡ rows
  rows_stay rows within = stays (map (number_after at)) rows (λ row has. row_stays row (All-contains (AllWithin count) rows row within has))

  target_stays : (t : Option ℕ) → IfSome t (λ f. f < count) → option_map (number_after at) t ≡ t
  target_stays None small = refl
  target_stays (Some g) small = ap Some (before_it at g (omega (arith, behind, small)))

  edges_stay : (edges : List ImportEdge) → AllWithin count (filter_map (λ l. l.target) edges) → map (edge_after at) edges ≡ edges
  edges_stay edges within =
      stays (edge_after at) edges (λ l has. ap (λ (t : Option ℕ). record { target = t; is_public = l.is_public }) (target_stays l.target (named_small count edges l has within)))

  pub files_stay : (files : List FileImports) → All (λ file. AllWithin count (targets file)) files → map (file_after at) files ≡ files
  files_stay files within = stays (file_after at) files (λ file has. ap (λ (edges : List ImportEdge). record { edges = edges; is_opaque = file.is_opaque })
      (edges_stay file.edges (All-contains (λ file. AllWithin count (targets file)) files file within has)))
