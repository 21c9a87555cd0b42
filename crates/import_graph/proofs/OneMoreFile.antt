-- What a graph says of files stays as it is, but for their numbers, once there is one more file that no other imports.
use Rattle.std.proofs.Common.{◌≡◌, inl, inr, ⊎_elim, ◌↔◌, ℕ, ◌+◌, ◌<◌, ◌≤◌, ◌&&◌, List, [], ◌∷◌, Bool, true, length, get_or, Option, Some, None, map, refl, ap, ap₂, sym, subst, ◌∙◌, arith}
use Rattle.std.specs.Prelude.{Contains, option_map, not}
use Rattle.std.specs.List.{list_all, range_with_len}
use Rattle.std.specs.List.Sorted.{IsStrictlyIncreasing}
use Rattle.std.proofs.lemmas.Bool.Decides.{same_from_decides}
use Rattle.std.proofs.lemmas.List.Folds.{list_all-map}
use Rattle.std.proofs.lemmas.List.Kept.{IsStrictlyIncreasing-filter}
use Rattle.std.proofs.lemmas.Simd.{map-map}
use Rattle.import_graph.specs.declared.imports.ImportEdge.{ImportEdge}
use Rattle.import_graph.specs.declared.imports.FileImports.{FileImports}
use Rattle.import_graph.specs.Arrivals.{MakesRoom}
use Rattle.import_graph.specs.Closures.{closes_cycle, is_closed, is_complete, reaches, sees, view_of}
use Rattle.import_graph.specs.Imports.{edges_at, is_analysed}
use Rattle.import_graph.specs.Moves.{IsMovedOutlook, moved_import, new_import, place}
use Rattle.import_graph.specs.Outlooks.{import_outlook, imports_outlook, outlook}
use Rattle.import_graph.specs.Views.{Imports, ImportsPublicly, Reaches, Sees}
use Rattle.import_graph.proofs.ImportEdges.{filter_from, filter_to, here, in_map, next}
use Rattle.import_graph.proofs.OneView.{in_range, rising, sees_within, view_is}
use Rattle.import_graph.proofs.SeesTest.{reaches_is, sees_is, step_within}
use Rattle.import_graph.proofs.Sharing.{mapped}
use Rattle.import_graph.proofs.Views.{Within}
use Rattle.import_graph.proofs.NewNumbers.{new_number, number_once, number_within, place_is, named_before, renumbered_rise, walk_there, walk_back}

-- an import by the new number of the file that it names
abbrev pub moved_edge : ℕ → ImportEdge → ImportEdge
moved_edge k l = record { target = option_map (new_number k) l.target; is_public = l.is_public }

-- the new graph has one more file, at the place k, which no other imports
pub record HasOneMore (old new : List FileImports) (k : ℕ) : Type 0 where
  pub room : k ≤ length old
  pub counted : length new ≡ length old + 1
  pub within : Within old
  pub new_within : Within new
  pub edges : (f : ℕ) → edges_at new (new_number k f) ≡ map (moved_edge k) (edges_at old f)
  pub opaque : (g : ℕ) → get_or (map (λ file. file.is_opaque) new) (new_number k g) true ≡ get_or (map (λ file. file.is_opaque) old) g true

-- the view of a file has what the file sees, ascending
module _ (graph : List FileImports) (within : Within graph) (f : ℕ) (there : f < length graph) where
  view_has : (g : ℕ) → Contains (view_of graph f) g ↔ Sees graph f g
  view_has g = (
    λ has. (sees_is graph within f g).0 (filter_from (sees graph f) (range_with_len 0 (length graph)) g has).1,
    λ s. filter_to (sees graph f) (range_with_len 0 (length graph)) g (in_range (length graph) g (sees_within graph within f there g s)) ((sees_is graph within f g).1 s),
  )

  view_rises : IsStrictlyIncreasing (view_of graph f)
  view_rises = IsStrictlyIncreasing-filter (sees graph f) (range_with_len 0 (length graph)) (rising (length graph))

-- two functions that agree on the elements of a list make the same list of it
pub map_agree : {X Y : Type 0} (f g : X → Y) (xs : List X) → ((x : X) → Contains xs x → f x ≡ g x) → map f xs ≡ map g xs
map_agree f g [] agree = refl
map_agree f g (x ∷ xs) agree = ap₂ (λ y ys. y ∷ ys) (agree x (here x xs)) (map_agree f g xs (λ z has. agree z (next x z xs has)))

-- two tests that agree hold of the same lists
pub all_agree : {X : Type 0} (p q : X → Bool) (xs : List X) → ((x : X) → p x ≡ q x) → list_all p xs ≡ list_all q xs
all_agree p q [] agree = refl
all_agree p q (x ∷ xs) agree = ap₂ (λ a b. a && b) (agree x) (all_agree p q xs agree)

module _ (old new : List FileImports) (k : ℕ) (more : HasOneMore old new k) where
  -- an import of the old graph is one of the new graph
  edge_there : (a : ℕ) (l : ImportEdge) → Contains (edges_at old a) l → Contains (edges_at new (new_number k a)) (moved_edge k l)
  edge_there a l has = subst (λ es. Contains es (moved_edge k l)) (sym (more.edges a)) (mapped (moved_edge k) (edges_at old a) l has)

  imports_there : (a b : ℕ) → Imports old a b → Imports new (new_number k a) (new_number k b)
  imports_there a b (l, has, e) = (moved_edge k l, edge_there a l has, ap (option_map (new_number k)) e)

  publicly_there : (a b : ℕ) → ImportsPublicly old a b → ImportsPublicly new (new_number k a) (new_number k b)
  publicly_there a b (l, has, marked, e) = (moved_edge k l, edge_there a l has, marked, ap (option_map (new_number k)) e)

  -- an import of the new graph by another file than the new one is one of the old graph
  edge_before : (a : ℕ) (l : ImportEdge) (x : ℕ) → Contains (edges_at new (new_number k a)) l → l.target ≡ Some x
      → (o : ImportEdge) × (b : ℕ) × Contains (edges_at old a) o × (moved_edge k o ≡ l) × (x ≡ new_number k b) × (o.target ≡ Some b)
  edge_before a l x has e =
      let was = in_map (moved_edge k) (edges_at old a) l (subst (λ es. Contains es l) (more.edges a) has) in
      let o : ImportEdge = was.0 in
      let named = named_before k o.target x (ap (λ (z : ImportEdge). z.target) was.2 ∙ e) in
      (o, named.0, was.1, was.2, named.1, named.2)

  imports_back : (a x : ℕ) → Imports new (new_number k a) x → (b : ℕ) × (x ≡ new_number k b) × Imports old a b
  imports_back a x (l, has, e) = let was = edge_before a l x has e in (was.1, was.4, (was.0, was.2, was.5))

  publicly_back : (a x : ℕ) → ImportsPublicly new (new_number k a) x → (b : ℕ) × (x ≡ new_number k b) × ImportsPublicly old a b
  publicly_back a x (l, has, marked, e) =
      let was = edge_before a l x has e in
      (was.1, was.4, (was.0, was.2, ap (λ (z : ImportEdge). z.is_public) was.3 ∙ marked, was.5))

  -- files reach what they reached
  reaches_there : (f g : ℕ) → Reaches old f g → Reaches new (new_number k f) (new_number k g)
  reaches_there f g walk = walk_there (λ a b. Imports old a b) (λ a b. Imports new a b) k imports_there walk

  reaches_back : (f g : ℕ) → Reaches new (new_number k f) (new_number k g) → Reaches old f g
  reaches_back f g walk =
      let was = walk_back (λ a b. Imports old a b) (λ a b. Imports new a b) k imports_back walk f refl in
      subst (λ x. Reaches old f x) (sym (number_once k g was.0 was.1)) was.2

  reaches_same : (f g : ℕ) → reaches new (new_number k f) (new_number k g) ≡ reaches old f g
  reaches_same f g =
      let before = reaches_is old more.within f g in
      let after = reaches_is new more.new_within (new_number k f) (new_number k g) in
      same_from_decides {P = Reaches old f g} (reaches new (new_number k f) (new_number k g)) (reaches old f g)
      (λ e. reaches_back f g (after.0 e), λ walk. after.1 (reaches_there f g walk)) before

  closes_same : (f : ℕ) (t : Option ℕ) → closes_cycle new (new_number k f) (option_map (new_number k) t) ≡ closes_cycle old f t
  closes_same f None = refl
  closes_same f (Some g) = reaches_same g f

  -- files see what they saw
  sees_there : (f g : ℕ) → Sees old f g → Sees new (new_number k f) (new_number k g)
  sees_there f g s = ⊎_elim
      (λ same. inl (ap (new_number k) same))
      (λ (h, step, walk). inr (new_number k h, imports_there f h step, walk_there (λ a b. ImportsPublicly old a b) (λ a b. ImportsPublicly new a b) k publicly_there walk))
      s

  sees_back : (f x : ℕ) → Sees new (new_number k f) x → (g : ℕ) × (x ≡ new_number k g) × Sees old f g
  sees_back f x s = ⊎_elim
      (λ same. (f, same, inl refl))
      (λ (h, step, walk).
      let first = imports_back f h step in
      let last = walk_back (λ a b. ImportsPublicly old a b) (λ a b. ImportsPublicly new a b) k publicly_back walk first.0 first.1 in
      (last.0, last.1, inr (first.0, first.2, last.2)))
      s

  module _ (f : ℕ) (there : f < length old) where
    new_there : new_number k f < length new
    new_there = omega (arith, number_within k f (length old) there, more.counted)

    -- the view is the old one under the new numbers
    view_moved : map (new_number k) (view_of old f) ≡ view_of new (new_number k f)
    view_moved = view_is new more.new_within (new_number k f) new_there (map (new_number k) (view_of old f))
        (renumbered_rise k (view_of old f) (view_rises old more.within f there))
        (λ x. (
          λ has. let was = in_map (new_number k) (view_of old f) x has in
              subst (λ z. Sees new (new_number k f) z) was.2 (sees_there f was.0 ((view_has old more.within f there was.0).0 was.1)),
          λ s. let was = sees_back f x s in
              subst (λ z. Contains (map (new_number k) (view_of old f)) z) (sym was.1)
              (mapped (new_number k) (view_of old f) was.0 ((view_has old more.within f there was.0).1 was.2)),
        ))

  -- the view is closed if it was
  analysed_same : (t : Option ℕ) → is_analysed new (option_map (new_number k) t) ≡ is_analysed old t
  analysed_same None = refl
  analysed_same (Some g) = ap not (more.opaque g)

  complete_same : (g : ℕ) → is_complete new (new_number k g) ≡ is_complete old g
  complete_same g =
      ap (list_all (λ l. is_analysed new l.target)) (more.edges g)
      ∙ list_all-map (λ l. is_analysed new l.target) (moved_edge k) (edges_at old g)
      ∙ all_agree (λ l. is_analysed new (option_map (new_number k) l.target)) (λ l. is_analysed old l.target) (edges_at old g) (λ l. analysed_same l.target)

  closed_same : (f : ℕ) → f < length old → is_closed new (new_number k f) ≡ is_closed old f
  closed_same f there =
      ap (list_all (is_complete new)) (sym (view_moved f there))
      ∙ list_all-map (is_complete new) (new_number k) (view_of old f)
      ∙ all_agree (λ g. is_complete new (new_number k g)) (is_complete old) (view_of old f) complete_same

  -- all that the graph says of a file, under the new numbers as the places give them
  module _ (to : List (Option ℕ)) (room : MakesRoom to (length old) k) where
    target_moved : (t : Option ℕ) → ((g : ℕ) → t ≡ Some g → g < length old) → option_map Some (option_map (new_number k) t) ≡ option_map (place to) t
    target_moved None there = refl
    target_moved (Some g) there = ap Some (sym (place_is to (length old) k g room (there g refl)))

    import_moved : (f : ℕ) (l : ImportEdge) → Contains (edges_at old f) l
        → new_import (import_outlook new (new_number k f) (option_map (new_number k) l.target)) ≡ moved_import to (import_outlook old f l.target)
    import_moved f l has = ap₂ (λ (t : Option (Option ℕ)) (b : Bool). (t, b))
        (target_moved l.target (λ g e. (step_within old more.within f g (l, has, e)).1))
        (closes_same f l.target)

    imports_moved : (f : ℕ) → map new_import (imports_outlook new (new_number k f)) ≡ map (moved_import to) (imports_outlook old f)
    imports_moved f =
        ap (λ es. map new_import (map (λ l. import_outlook new (new_number k f) l.target) es)) (more.edges f)
        ∙ ap (map new_import) (map-map (λ l. import_outlook new (new_number k f) l.target) (moved_edge k) (edges_at old f))
        ∙ map-map new_import (λ l. import_outlook new (new_number k f) (option_map (new_number k) l.target)) (edges_at old f)
        ∙ map_agree (λ l. new_import (import_outlook new (new_number k f) (option_map (new_number k) l.target))) (λ l. moved_import to (import_outlook old f l.target)) (edges_at old f) (import_moved f)
        ∙ sym (map-map (moved_import to) (λ l. import_outlook old f l.target) (edges_at old f))

    views_moved : (f : ℕ) → f < length old → map Some (view_of new (new_number k f)) ≡ map (place to) (view_of old f)
    views_moved f there =
        ap (map Some) (sym (view_moved f there))
        ∙ map-map Some (new_number k) (view_of old f)
        ∙ map_agree (λ g. Some (new_number k g)) (place to) (view_of old f)
        (λ g has. sym (place_is to (length old) k g room (sees_within old more.within f there g ((view_has old more.within f there g).0 has))))

    pub outlook_moved : (f f' : ℕ) → f < length old → place to f ≡ Some f' → IsMovedOutlook to (outlook old f) (outlook new f')
    outlook_moved f f' there e =
        let placed = place_is to (length old) k f room there in
        let same : new_number k f ≡ f' = cc in
        subst (λ x. IsMovedOutlook to (outlook old f) (outlook new x)) same
        (record { views = views_moved f there; closed = closed_same f there; imports = imports_moved f })
