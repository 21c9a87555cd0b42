-- Rows turned round, file by file.
use Rattle.std.proofs.Common.{◌≡◌, ◌⊎◌, inl, inr, ⊎_elim, ◌↔◌, ℕ, ◌<◌, List, [], ◌∷◌, ◌++◌, length, get_or, get_or-set_other, get_or-set_same, sym, ◌∙◌, arith}
use Rattle.std.proofs.Math.ListN.{set}
use Rattle.std.specs.Prelude.{Contains}
use Rattle.std.proofs.lemmas.Bool.{cases_eq, cases_lt}
use Rattle.std.proofs.lemmas.List.{get_or_past, get_or_push, get_or_append_left}
use Rattle.std.proofs.lemmas.List.Elements.{Contains-push, Contains-append_left, Contains-push_cases}
use Rattle.import_graph.specs.Condensed.{LeadsToOne}
use Rattle.import_graph.specs.Walks.{Lists, ReachedFrom}
use Rattle.import_graph.specs.Tours.{Adds, IsTurned}
use Rattle.import_graph.proofs.ImportEdges.{here}
use Rattle.import_graph.proofs.Mutual.{lists_push}
use Rattle.import_graph.proofs.Search.{walk_back}

-- a file for which one is listed is there
pub row_there : (rows : List (List ℕ)) (a b : ℕ) → Lists rows a b → a < length rows
row_there rows a b has = elim (cases_lt a (length rows)) [
  | inl lt ↦ lt
  | inr past ↦ let none : get_or rows a [] ≡ [] = get_or_past rows a [] past in let bad : Contains {X = ℕ} [] b = rw none at has in absurd (omega (arith, bad.1))
]

-- a file is added to one row
row_added : (rows : List (List ℕ)) (at file : ℕ) → at < length rows → (a b : ℕ)
    → Lists (set rows at (get_or rows at [] ++ file ∷ [])) a b ↔ Lists rows a b ⊎ ((a ≡ at) × (b ≡ file))
row_added rows at file lt a b = elim (cases_eq a at) [
  | inl is ↦ (
    λ has. let row : Contains (get_or rows at [] ++ file ∷ []) b = rw (is, get_or-set_same rows at (get_or rows at [] ++ file ∷ []) [] lt) at has in
        ⊎_elim (λ was. inl (rw is was)) (λ same. inr (is, sym same)) (Contains-push_cases (get_or rows at []) file b row),
    λ s. rw (is, get_or-set_same rows at (get_or rows at [] ++ file ∷ []) [] lt)
        (⊎_elim (λ was. let before : Contains (get_or rows at []) b = rw is at was in Contains-append_left (get_or rows at []) (file ∷ []) b before)
        (λ (_, same). rw same (Contains-push (get_or rows at []) file)) s),
  )
  | inr other ↦ (
    λ has. inl (rw (get_or-set_other rows at a (get_or rows at [] ++ file ∷ []) [] other) at has),
    λ s. rw (get_or-set_other rows at a (get_or rows at [] ++ file ∷ []) [] other) (⊎_elim (λ was. was) (λ (same, _). absurd (other same)) s),
  )
]

pub Adds-push : (old mid : List (List ℕ)) (done : List ℕ) (at file : ℕ) → at < length mid → Adds old mid done file
    → Adds old (set mid at (get_or mid at [] ++ file ∷ [])) (done ++ at ∷ []) file
Adds-push old mid done at file lt before a b =
    let one = row_added mid at file lt a b in
    let all = before a b in (
      λ has. ⊎_elim
          (λ was. ⊎_elim (λ first. inl first) (λ (there, is). inr (Contains-append_left done (at ∷ []) a there, is)) (all.0 was))
          (λ (here, is). inr (rw here (Contains-push done at), is))
          (one.0 has),
      λ s. one.1 (⊎_elim
          (λ first. inl (all.1 (inl first)))
          (λ (there, is). ⊎_elim (λ earlier. inl (all.1 (inr (earlier, is)))) (λ same. inr (sym same, is)) (Contains-push_cases done at a there))
          s),
    )

-- one more row
pub IsTurned-push : (rows old new : List (List ℕ)) (row : List ℕ) (file : ℕ) → length rows ≡ file → IsTurned rows old → Adds old new row file → IsTurned (rows ++ row ∷ []) new
IsTurned-push rows old new row file long before adds a b = (
  λ has. ⊎_elim
      (λ was. let earlier = (before a b).0 was in rw (get_or_append_left rows (row ∷ []) [] b (row_there rows b a earlier)) earlier)
      (λ (there, is). rw (get_or_push rows row [] b (long ∙ sym is)) there)
      ((adds a b).0 has),
  λ has. (adds a b).1 (⊎_elim (λ (_, earlier). inl ((before a b).1 earlier)) (λ (last, there). inr (there, last ∙ long)) (lists_push rows row b a has)),
)

-- from some files turned rows lead to those from which the rows lead to one of them
pub turned_leads : (rows turned : List (List ℕ)) → IsTurned rows turned → (files : List ℕ) (g : ℕ) → ReachedFrom turned files g ↔ LeadsToOne rows files g
turned_leads rows turned is files g = (
  λ (h, has, walk). (h, has, walk_back (λ a b. (is a b).0) walk),
  λ (h, has, walk). (h, has, walk_back (λ a b. (is b a).1) walk),
)
