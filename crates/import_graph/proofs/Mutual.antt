-- Files that lead to the first of their number and back lead to one another.
use Rattle.std.proofs.Common.{◌≡◌, ◌⊎◌, inl, inr, ⊎_elim, ℕ, ◌<◌, ◌==◌, List, [], ◌∷◌, ◌++◌, Bool, true, false, length, get_or, filter, refl, ap, sym, ◌∙◌, arith}
use Rattle.std.specs.Prelude.{All, Contains}
use Rattle.std.proofs.lemmas.Bool.{cases_eq, cases_lt}
use Rattle.std.proofs.lemmas.Bool.Decides.{nat_tests}
use Rattle.std.proofs.lemmas.List.{get_or_default, get_or_past, get_or_push, get_or_append_left, length_push}
use Rattle.std.proofs.lemmas.List.Elements.{All-contains, All-weaker, All-contains_itself}
use Rattle.import_graph.specs.Walks.{AllWithin, Lists, Walk, stay, go, ReachedFrom}
use Rattle.import_graph.specs.Ties.{IsInner, IsFirst, IsTied}
use Rattle.import_graph.specs.Tours.{IsTurned}
use Rattle.import_graph.proofs.ImportEdges.{filter_from, walk_map}
use Rattle.import_graph.proofs.Placing.{listed_within}
use Rattle.import_graph.proofs.Search.{walk_back}

-- what the last row lists, or an earlier one
pub lists_push : (rows : List (List ℕ)) (row : List ℕ) (a b : ℕ) → Lists (rows ++ row ∷ []) a b → ((a < length rows) × Lists rows a b) ⊎ ((a ≡ length rows) × Contains row b)
lists_push rows row a b has = elim (cases_lt a (length rows)) [
  | inl lt ↦ inl (lt, rw (get_or_append_left rows (row ∷ []) [] a lt) at has)
  | inr past ↦ elim (cases_eq a (length rows)) [
    | inl is ↦ inr (is, rw (get_or_push rows row [] a (sym is)) at has)
    | inr beyond ↦
        let long = length_push rows row in
        let none : get_or (rows ++ row ∷ []) a [] ≡ [] = get_or_past (rows ++ row ∷ []) a [] (omega (arith, long, past, beyond)) in
        let bad : Contains {X = ℕ} [] b = rw none at has in absurd (omega (arith, bad.1))
  ]
]

pub IsInner-none : (imports : List (List ℕ)) (numbers : List ℕ) → IsInner imports numbers []
IsInner-none imports numbers a b has = absurd (omega (arith, has.1))

-- one more row
pub IsInner-push : (imports : List (List ℕ)) (numbers : List ℕ) (rows : List (List ℕ)) (number : ℕ) → IsInner imports numbers rows → get_or numbers (length rows) 0 ≡ number
    → IsInner imports numbers (rows ++ filter (λ g. get_or numbers g 0 == number) (get_or imports (length rows) []) ∷ [])
IsInner-push imports numbers rows number before is a b has = ⊎_elim
    (λ (lt, earlier). before a b earlier)
    (λ (at, last). let r = filter_from (λ g. get_or numbers g 0 == number) (get_or imports (length rows) []) b last in
    let same : get_or numbers b 0 ≡ number = let t = r.1 in grind (arith, nat_tests) in
    (rw at r.0, rw at (same ∙ sym is)))
    (lists_push rows (filter (λ g. get_or numbers g 0 == number) (get_or imports (length rows) [])) a b has)

-- inner rows stay within
pub inner_within : (imports : List (List ℕ)) → All (AllWithin (length imports)) imports → (numbers : List ℕ) (rows : List (List ℕ)) → length rows ≡ length imports → IsInner imports numbers rows → All (AllWithin (length rows)) rows
inner_within imports within numbers rows long inner k d lt =
    All-weaker (Contains (get_or rows k d)) (λ g. g < length rows)
    (λ g has. let listed : Lists rows k g = rw (default rows k d lt) at has in omega (arith, long, (listed_within imports within k g (inner k g listed).0).1))
    (get_or rows k d) (All-contains_itself (get_or rows k d))
  where
    default : (rows : List (List ℕ)) (k : ℕ) (d : List ℕ) → k < length rows → get_or rows k d ≡ get_or rows k []
    default rows k d lt = get_or_default rows k d [] lt

module _ (imports : List (List ℕ)) (numbers : List ℕ) (inner : List (List ℕ)) (is_inner : IsInner imports numbers inner) where
  abbrev number : ℕ → ℕ
  number g = get_or numbers g 0

  -- inner imports keep the number
  kept : {a b : ℕ} → Walk (λ x y. Lists inner x y) a b → number b ≡ number a
  kept stay = refl
  kept (go {a = a} {b = b} first rest) = kept rest ∙ (is_inner a b first).1

  module _ (turned : List (List ℕ)) (is_turned : IsTurned inner turned) where
    append : {a b c : ℕ} → Walk (λ x y. Lists imports x y) a b → Walk (λ x y. Lists imports x y) b c → Walk (λ x y. Lists imports x y) a c
    append stay later = later
    append (go first rest) later = go first (append rest later)

    plain : {a b : ℕ} → Walk (λ x y. Lists inner x y) a b → Walk (λ x y. Lists imports x y) a b
    plain walk = walk_map (λ a b step. (is_inner a b step).0) walk

    pub are_tied : (firsts starts : List ℕ) → All (IsFirst firsts numbers) starts → (flags : List Bool)
        → ((g : ℕ) → get_or flags g false ≡ true → ReachedFrom inner starts g × ReachedFrom turned starts g) → IsTied imports numbers flags
    are_tied firsts starts first flags both a b of_a of_b same =
        let behind = (both a of_a).1 in
        let ahead = (both b of_b).0 in
        let r = behind.0 in
        let s = ahead.0 in
        let from = walk_back (λ a b. (is_turned a b).0) behind.2 in
        let of_r : number r ≡ number a = kept from in
        let of_s : number b ≡ number s = kept ahead.2 in
        let at_r : get_or firsts (number r) 0 ≡ r = All-contains (IsFirst firsts numbers) starts r first behind.1 in
        let at_s : get_or firsts (number s) 0 ≡ s = All-contains (IsFirst firsts numbers) starts s first ahead.1 in
        let one : r ≡ s = sym at_r ∙ (ap (λ (n : ℕ). get_or firsts n 0) (of_r ∙ (same ∙ of_s)) ∙ at_s) in
        append (plain from) (rw one (plain ahead.2))
