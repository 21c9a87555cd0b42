-- A file isn't checked for unknown names exactly if an import is the reason.
use Rattle.std.proofs.Common.{◌≡◌, ◌⊎◌, inl, inr, ⊎_elim, ◌↔◌, ℕ, ◌<◌, Bool, true, false, not, if◌then◌else◌, List, [], ◌∷◌, ◌++◌, None, length, get_or, refl, sym, ap, ap₂, ◌∙◌, subst, zero-add, arith}
use Rattle.std.specs.Prelude.{Contains, IsSome, slice_get}
use Rattle.std.specs.List.{enumerate_from, flat_map, range_with_len}
use Rattle.std.proofs.lemmas.List.{get_or-map, get_or_default}
use Rattle.std.proofs.lemmas.List.Elements.{Contains-get_or}
use Rattle.std.proofs.lemmas.List.FromFn.{length-enumerate_from, get_or-enumerate_from}
use Rattle.proto_decls.specs.Diags.{nowhere}
use Rattle.proto_decls.specs.declared.fact.ImportFact.{ImportFact}
use Rattle.proto_decls.specs.declared.named_facts.NamedFacts.{NamedFacts}
use Rattle.import_graph.specs.declared.imports.FileImports.{FileImports}
use Rattle.import_graph.specs.declared.imports.ImportEdge.{ImportEdge}
use Rattle.import_graph.specs.Closures.{view_of, is_complete, is_closed}
use Rattle.import_graph.specs.Imports.{graph_of, edges_at, target_at, is_analysed}
use Rattle.import_graph.proofs.ImportEdges.{filter_from, filter_to, here, here_or_next, next}
use Rattle.import_graph.proofs.OneView.{in_range}
use Rattle.import_graph.proofs.OpenViews.{fails, failed, fails_from, fails_to}
use Rattle.proto_names.specs.Files.{facts_at}
use Rattle.proto_resolve.proofs.Imports.{as_many}
use Rattle.work_shares.specs.Unchecked.{lost_path, lost_paths, first_lost, unchecked}

-- ---- lists with a first

module _ {A : Type 0} where
  first_of_two : (xs ys : List A) → IsSome (slice_get (xs ++ ys) 0) → IsSome (slice_get xs 0) ⊎ IsSome (slice_get ys 0)
  first_of_two [] ys e = inr e
  first_of_two (x ∷ xs) ys e = inl refl

  first_in_front : (xs ys : List A) → IsSome (slice_get xs 0) → IsSome (slice_get (xs ++ ys) 0)
  first_in_front [] ys e = absurd (cc (e))
  first_in_front (x ∷ xs) ys e = refl

  first_behind : (xs ys : List A) → IsSome (slice_get ys 0) → IsSome (slice_get (xs ++ ys) 0)
  first_behind [] ys e = e
  first_behind (x ∷ xs) ys e = refl

-- what comes of some items has a first exactly if what comes of one has
module _ {X A : Type 0} (f : X → List A) where
  some_from : (xs : List X) → IsSome (slice_get (flat_map f xs) 0) → (x : X) × Contains xs x × IsSome (slice_get (f x) 0)
  some_from [] e = absurd (cc (e))
  some_from (x ∷ xs) e = ⊎_elim
      (λ first. (x, here x xs, first))
      (λ later. let r = some_from xs later in (r.0, next x r.0 xs r.1, r.2))
      (first_of_two (f x) (flat_map f xs) e)

  some_to : (xs : List X) (x : X) → Contains xs x → IsSome (slice_get (f x) 0) → IsSome (slice_get (flat_map f xs) 0)
  some_to [] x has e = absurd (omega (arith, has.1))
  some_to (y ∷ ys) x has e = ⊎_elim
      (λ same. first_in_front (f y) (flat_map f ys) (subst (λ (z : X). IsSome (slice_get (f z) 0)) (sym same) e))
      (λ later. first_behind (f y) (flat_map f ys) (some_to ys x later e))
      (here_or_next y x ys has)

one_unless : (b : Bool) (path : List ℕ) → IsSome (slice_get (if b then [] else path ∷ []) 0) ↔ (b ≡ false)
one_unless true path = (λ e. absurd (cc (e)), λ e. absurd (cc (e)))
one_unless false path = (λ e. refl, λ e. refl)

-- ---- imports that name no analysed file

module _ (files : List NamedFacts) where
  abbrev graph : List FileImports
  graph = graph_of files

  abbrev imports : ℕ → List ImportFact
  imports g = let facts = facts_at files g in facts.imports

  abbrev names : ImportEdge → Bool
  names l = is_analysed graph l.target

  target_is : (g k : ℕ) (l : ImportEdge) → k < length (edges_at graph g) → target_at graph g k ≡ (let edge = get_or (edges_at graph g) k l in edge.target)
  target_is g k l lt = get_or-map (λ (l : ImportEdge). l.target) (edges_at graph g) k l None lt

  incomplete_from : (g : ℕ) → IsSome (slice_get (lost_paths files g) 0) → is_complete graph g ≡ false
  incomplete_from g e =
      let l : ImportEdge = record { target = None; is_public = false } in
      let r = some_from (lost_path files g) (enumerate_from 0 (imports g)) e in
      let k = r.1.0 in
      let there : k < length (imports g) = omega (arith, r.1.1, length-enumerate_from 0 (imports g)) in
      let within : k < length (edges_at graph g) = omega (arith, there, as_many files files g) in
      let at : k ≡ r.0.0 = sym (zero-add k) ∙ ap (λ (x : ℕ × ImportFact). x.0) (sym (get_or-enumerate_from 0 (imports g) k r.0 there) ∙ r.1.2) in
      let lost : is_analysed graph (target_at graph g k) ≡ false = rw at ((one_unless (is_analysed graph (target_at graph g r.0.0)) r.0.1.path).0 r.2) in
      fails_to names (edges_at graph g) (get_or (edges_at graph g) k l) (Contains-get_or (edges_at graph g) k l within) (ap (is_analysed graph) (sym (target_is g k l within)) ∙ lost)

  incomplete_to : (g : ℕ) → is_complete graph g ≡ false → IsSome (slice_get (lost_paths files g) 0)
  incomplete_to g e =
      let i : ImportFact = record { path = []; span = nowhere; is_public = false } in
      let r = fails_from names (edges_at graph g) e in
      let k = r.1.0 in
      let there : k < length (imports g) = omega (arith, r.1.1, as_many files files g) in
      let long : k < length (enumerate_from 0 (imports g)) = omega (arith, there, length-enumerate_from 0 (imports g)) in
      let entry : ℕ × ImportFact = (k, get_or (imports g) k i) in
      let same : get_or (enumerate_from 0 (imports g)) k entry ≡ entry = get_or-enumerate_from 0 (imports g) k entry there
      ∙ ap₂ (λ (a : ℕ) (b : ImportFact). (a, b)) (zero-add k) (get_or_default (imports g) k (get_or (imports g) k i) i there) in
      let has : Contains (enumerate_from 0 (imports g)) entry = (k, long, same) in
      let lost : is_analysed graph (target_at graph g k) ≡ false = ap (is_analysed graph) (target_is g k r.0 r.1.1 ∙ ap (λ (l : ImportEdge). l.target) r.1.2) ∙ r.2 in
      some_to (lost_path files g) (enumerate_from 0 (imports g)) entry has ((one_unless (is_analysed graph (target_at graph g k)) entry.1.path).1 lost)

  -- there is a first such import exactly if the file isn't checked
  pub is_told : (f : ℕ) → f < length graph → IsSome (first_lost files f) ↔ Contains (unchecked files) f
  is_told f lt = (
    λ e. let r = some_from (lost_paths files) (view_of graph f) e in
        filter_to (λ g. not (is_closed graph g)) (range_with_len 0 (length graph)) f (in_range (length graph) f lt)
        (failed (is_closed graph f) (fails_to (is_complete graph) (view_of graph f) r.0 r.1 (incomplete_from r.0 r.2))),
    λ has. let r = fails_from (is_complete graph) (view_of graph f) (fails (is_closed graph f) (filter_from (λ g. not (is_closed graph g)) (range_with_len 0 (length graph)) f has).1) in
        some_to (lost_paths files) (view_of graph f) r.0 r.1 (incomplete_to r.0 r.2),
  )
