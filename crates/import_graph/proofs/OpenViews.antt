-- The files whose view isn't closed.
use Rattle.std.proofs.Common.{◌≡◌, ◌⊎◌, inl, inr, ⊎_elim, ◌↔◌, ℕ, ◌<◌, ◌&&◌, not, List, [], ◌∷◌, Bool, true, false, length, refl, sym, subst, arith}
use Rattle.std.specs.Prelude.{All, Contains}
use Rattle.std.specs.List.{list_all, range_with_len}
use Rattle.std.specs.List.Sorted.{IsStrictlyIncreasing}
use Rattle.std.proofs.lemmas.List.Elements.{All-weaker, All-contains_itself}
use Rattle.import_graph.specs.declared.imports.FileImports.{FileImports}
use Rattle.import_graph.specs.Closures.{sees, view_of, is_complete, is_closed, incomplete_files, open_views}
use Rattle.import_graph.specs.Views.{SeesOne}
use Rattle.import_graph.proofs.ImportEdges.{filter_from, filter_to, here, here_or_next, next}
use Rattle.import_graph.proofs.OneView.{below, filter_is}
use Rattle.import_graph.proofs.Seers.{seer_within}
use Rattle.import_graph.proofs.SeesTest.{sees_is}
use Rattle.import_graph.proofs.Views.{Within}

-- ---- tests that fail

pub fails : (b : Bool) → not b ≡ true → b ≡ false
fails true e = absurd (cc (e))
fails false e = refl

pub failed : (b : Bool) → b ≡ false → not b ≡ true
failed true e = absurd (cc (e))
failed false e = refl

and_fails : (a b : Bool) → a && b ≡ false → (a ≡ false) ⊎ (b ≡ false)
and_fails true b e = inr e
and_fails false b e = inl refl

left_fails : (a b : Bool) → a ≡ false → a && b ≡ false
left_fails true b e = absurd (cc (e))
left_fails false b e = refl

right_fails : (a b : Bool) → b ≡ false → a && b ≡ false
right_fails true b e = e
right_fails false b e = refl

-- one of a list fails where not all pass
module _ {X : Type 0} (p : X → Bool) where
  pub fails_from : (xs : List X) → list_all p xs ≡ false → (x : X) × Contains xs x × (p x ≡ false)
  fails_from [] e = absurd (cc (e))
  fails_from (x ∷ xs) e = ⊎_elim (λ first. (x, here x xs, first)) (λ later. let r = fails_from xs later in (r.0, next x r.0 xs r.1, r.2)) (and_fails (p x) (list_all p xs) e)

  pub fails_to : (xs : List X) (x : X) → Contains xs x → p x ≡ false → list_all p xs ≡ false
  fails_to [] x (k, lt, is) e = absurd (omega (arith, lt))
  fails_to (y ∷ ys) x has e = ⊎_elim
      (λ same. left_fails (p y) (list_all p ys) (subst (λ (z : X). p z ≡ false) (sym same) e))
      (λ later. right_fails (p y) (list_all p ys) (fails_to ys x later e))
      (here_or_next y x ys has)

-- ---- the files

module _ (graph : List FileImports) where
  abbrev numbers : List ℕ
  numbers = range_with_len 0 (length graph)

  pub incomplete_within : All (λ g. g < length graph) (incomplete_files graph)
  incomplete_within = All-weaker (Contains (incomplete_files graph)) (λ g. g < length graph)
      (λ g has. below (length graph) g (filter_from (λ f. not (is_complete graph f)) numbers g has).0)
      (incomplete_files graph) (All-contains_itself (incomplete_files graph))

  pub open_within : All (λ g. g < length graph) (open_views graph)
  open_within = All-weaker (Contains (open_views graph)) (λ g. g < length graph)
      (λ g has. below (length graph) g (filter_from (λ f. not (is_closed graph f)) numbers g has).0)
      (open_views graph) (All-contains_itself (open_views graph))

  -- an ascending list of those that see an incomplete file is the one of the definition
  module _ (within : Within graph) where
    pub open_is : (v : List ℕ) → IsStrictlyIncreasing v → ((g : ℕ) → Contains v g ↔ SeesOne graph (incomplete_files graph) g) → v ≡ open_views graph
    open_is v ascending exact = filter_is (λ f. not (is_closed graph f)) (length graph) v ascending (λ g. (to g, from g))
      where
        to : (g : ℕ) → Contains v g → (g < length graph) × (not (is_closed graph g) ≡ true)
        to g has =
            let r = (exact g).0 has in
            let at = filter_from (λ f. not (is_complete graph f)) numbers r.0 r.1 in
            let in_view = filter_to (sees graph g) numbers r.0 at.0 ((sees_is graph within g r.0).1 r.2) in (
              seer_within graph r.0 within (below (length graph) r.0 at.0) g r.2,
              failed (is_closed graph g) (fails_to (is_complete graph) (view_of graph g) r.0 in_view (fails (is_complete graph r.0) at.1)),
            )

        from : (g : ℕ) → (g < length graph) × (not (is_closed graph g) ≡ true) → Contains v g
        from g (lt, e) =
            let r = fails_from (is_complete graph) (view_of graph g) (fails (is_closed graph g) e) in
            let at = filter_from (sees graph g) numbers r.0 r.1 in
            (exact g).1 (r.0, filter_to (λ f. not (is_complete graph f)) numbers r.0 at.0 (failed (is_complete graph r.0) r.2), (sees_is graph within g r.0).0 at.1)

    -- where all are complete, all views are closed
    pub none_open : (v : List ℕ) → v ≡ incomplete_files graph → length v ≡ 0 → v ≡ open_views graph
    none_open [] is none = open_is [] (λ k lt. absurd (omega (arith, lt)))
        (λ g. (
          λ has. absurd (omega (arith, has.1)),
          λ (h, has, _). let bad : Contains {X = ℕ} [] h = subst (λ (xs : List ℕ). Contains xs h) (sym is) has in absurd (omega (arith, bad.1)),
        ))
    none_open (x ∷ xs) is none = absurd (omega (arith, none))
