-- The files that see one of some files.
use Rattle.std.proofs.Common.{◌≡◌, ◌⊎◌, inl, inr, ⊎_elim, ◌↔◌, ℕ, ◌<◌, ◌||◌, List, ◌∷◌, Bool, true, false, length, get_or, filter, map, refl, sym, subst, arith}
use Rattle.std.specs.Prelude.{[], Contains}
use Rattle.std.specs.List.{list_any, range_with_len}
use Rattle.std.specs.List.Sorted.{IsStrictlyIncreasing}
use Rattle.std.proofs.lemmas.List.Kept.{IsStrictlyIncreasing-filter}
use Rattle.import_graph.specs.declared.file_search.FileSearch.{FileSearch}
use Rattle.import_graph.specs.declared.imports.FileImports.{FileImports}
use Rattle.import_graph.specs.Closures.{sees, seers_of}
use Rattle.import_graph.specs.Condensed.{Leads, LeadsToOne, LeadAlike}
use Rattle.import_graph.specs.FileSearches.{IsSeen, ImportsSeen}
use Rattle.import_graph.specs.Imports.{targets, public_targets}
use Rattle.import_graph.specs.Views.{Sees, SeesOne}
use Rattle.import_graph.specs.Walks.{Lists, Walk, stay, go}
use Rattle.import_graph.proofs.Closures.{or_cases, or_left, or_right}
use Rattle.import_graph.proofs.ImportEdges.{filter_from, filter_to, here, here_or_next, imports_listed, public_listed, walk_map}
use Rattle.import_graph.proofs.OneView.{filter_is, in_range, rising}
use Rattle.import_graph.proofs.Search.{seen_within}
use Rattle.import_graph.proofs.SeesTest.{any_from, any_to, sees_is, step_within}
use Rattle.import_graph.proofs.Turns.{row_there}
use Rattle.import_graph.proofs.Views.{Within}

-- whether the search has seen one of the files
abbrev pub is_one_seen : FileSearch → List ℕ → Bool
is_one_seen s files = list_any (λ h. get_or s.seen.items h false) files

-- whether the file was seen or imports one that was
abbrev pub is_importing : List (List ℕ) → FileSearch → ℕ → Bool
is_importing imports s g = get_or s.seen.items g false || is_one_seen s (get_or imports g [])

-- the files for which the test holds
module _ (imports : List (List ℕ)) (s : FileSearch) where
  pub importing_rises : IsStrictlyIncreasing (filter (is_importing imports s) (range_with_len 0 (length imports)))
  importing_rises = IsStrictlyIncreasing-filter (is_importing imports s) (range_with_len 0 (length imports)) (rising (length imports))

  pub importing_is : (g : ℕ) → (is_importing imports s g ≡ true) ↔ IsSeen s g ⊎ ImportsSeen imports s g
  importing_is g = (
    λ e. ⊎_elim
        (λ seen. inl seen)
        (λ one. let r = any_from (λ h. get_or s.seen.items h false) (get_or imports g []) one in inr (r.0, r.1, r.2))
        (or_cases (get_or s.seen.items g false) (is_one_seen s (get_or imports g [])) e),
    λ x. ⊎_elim
        (λ seen. or_left (get_or s.seen.items g false) (is_one_seen s (get_or imports g [])) seen)
        (λ (h, listed, seen). or_right (get_or s.seen.items g false) (is_one_seen s (get_or imports g [])) (any_to (λ h. get_or s.seen.items h false) (get_or imports g []) h listed seen))
        x,
  )

  pub importing_has : length s.seen.items ≡ length imports → (g : ℕ) → Contains (filter (is_importing imports s) (range_with_len 0 (length imports))) g ↔ IsSeen s g ⊎ ImportsSeen imports s g
  importing_has long g = (
    λ has. (importing_is g).0 (filter_from (is_importing imports s) (range_with_len 0 (length imports)) g has).1,
    λ x. filter_to (is_importing imports s) (range_with_len 0 (length imports)) g (in_range (length imports) g (within x)) ((importing_is g).1 x),
  )
    where
      within : IsSeen s g ⊎ ImportsSeen imports s g → g < length imports
      within x = ⊎_elim (λ seen. let there = seen_within s g seen in omega (arith, there, long)) (λ (h, listed, _). row_there imports g h listed) x

module _ (graph : List FileImports) where
  -- public imports that lead to a file let it be seen
  leads_sees : {a b : ℕ} → Walk (λ x y. Lists (map public_targets graph) x y) a b → Sees graph a b
  leads_sees stay = inl refl
  leads_sees (go {a = a} {b = b} first rest) =
      let l = (public_listed graph a b).0 first in
      inr (b, (l.0, l.1, l.3), walk_map (λ x y. (public_listed graph x y).0) rest)

  -- a search finds from which files public imports lead to one of some files
  pub seers_by_search : (steps : List (List ℕ)) → LeadAlike steps (map public_targets graph) → (files : List ℕ) (s : FileSearch) → ((h : ℕ) → IsSeen s h ↔ LeadsToOne steps files h)
      → (g : ℕ) → IsSeen s g ⊎ ImportsSeen (map targets graph) s g ↔ SeesOne graph files g
  seers_by_search steps alike files s exact g = (
    λ x. ⊎_elim
        (λ seen. let r = (exact g).0 seen in (r.0, r.1, leads_sees ((alike g r.0).0 r.2)))
        (λ (h, listed, seen). let r = (exact h).0 seen in (r.0, r.1, inr (h, (imports_listed graph g h).0 listed, walk_map (λ a b. (public_listed graph a b).0) ((alike h r.0).0 r.2))))
        x,
    λ (f, has, sees). ⊎_elim
        (λ same. inl ((exact g).1 (f, has, subst (λ (x : ℕ). Leads steps g x) (sym same) stay)))
        (λ (h, step, walk). inr (h, (imports_listed graph g h).1 step, (exact h).1 (f, has, (alike h f).1 (walk_map (λ a b. (public_listed graph a b).1) walk))))
        sees,
  )

  -- of one file
  pub one_seen : (f g : ℕ) → SeesOne graph (f ∷ []) g ↔ Sees graph g f
  one_seen f g = (
    λ (h, has, sees). ⊎_elim
        (λ same. subst (λ (x : ℕ). Sees graph g x) (sym same) sees)
        (λ bad. absurd (omega (arith, bad.1)))
        (here_or_next f h [] has),
    λ sees. (f, here f [], sees),
  )

module _ (graph : List FileImports) (f : ℕ) (within : Within graph) (there : f < length graph) where
  -- a file that sees f is there
  pub seer_within : (g : ℕ) → Sees graph g f → g < length graph
  seer_within g x = ⊎_elim (λ same. omega (arith, same, there)) (λ (h, step, _). (step_within graph within g h step).0) x

  -- an ascending list of the files that see f is the one of the definition
  pub seers_is : (v : List ℕ) → IsStrictlyIncreasing v → ((g : ℕ) → Contains v g ↔ Sees graph g f) → v ≡ seers_of graph f
  seers_is v ascending exact =
      filter_is (λ g. sees graph g f) (length graph) v ascending
      (λ g. (λ has. let x = (exact g).0 has in (seer_within g x, (sees_is graph within g f).1 x), λ (_, e). (exact g).1 ((sees_is graph within g f).0 e)))
