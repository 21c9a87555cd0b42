-- Lists that files share.
use Rattle.std.proofs.Common.{◌≡◌, ◌⊎◌, inl, inr, ⊎_elim, ◌↔◌, ℕ, ◌-◌, ◌<◌, Bool, List, [], ◌∷◌, ◌++◌, Some, None, length, length-set, map, get_or, get_or-set_other, get_or-set_same, drop, take, refl, sym, subst, ap, ◌∙◌, arith}
use Rattle.std.specs.Prelude.{All, Contains}
use Rattle.std.specs.List.Sorted.{IsPermutation, IsStrictlyIncreasing}
use Rattle.std.proofs.Math.ListN.{set}
use Rattle.std.proofs.lemmas.Bool.{cases_eq, cases_lt}
use Rattle.std.proofs.lemmas.List.{get_or_append_left, get_or_past, length-drop, length-take, length_push}
use Rattle.std.proofs.lemmas.List.Elements.{Contains-append_left, Contains-push, All-contains, All-contains_itself, All-drop, All-nil, All-push, All-take, All-weaker}
use Rattle.std.proofs.lemmas.List.Sorted.{All-permutation}
use Rattle.import_graph.specs.Condensed.{Leads, StandsFor, representative}
use Rattle.import_graph.specs.Shared.{AreShared, Fills, IsOwnList, IsStart, LeadsAlike, list_at, number_at}
use Rattle.import_graph.specs.Ties.{IsTied}
use Rattle.import_graph.specs.Walks.{AllWithin, ReachedFrom}
use Rattle.import_graph.specs.declared.shared.SharedLists.{SharedLists}
use Rattle.import_graph.specs.declared.shared.Start.{Start}
use Rattle.import_graph.proofs.ImportEdges.{here, here_or_next, in_map, next}
use Rattle.import_graph.proofs.Representatives.{leads_to, leads_from, walk_append}

pub mapped : {X Y : Type 0} (f : X → Y) (xs : List X) (x : X) → Contains xs x → Contains (map f xs) (f x)
mapped f [] x (k, lt, e) = absurd (omega (arith, lt))
mapped f (y ∷ xs) x has = ⊎_elim (λ same. subst (λ z. Contains (f y ∷ map f xs) (f z)) same (here (f y) (map f xs))) (λ later. next (f y) (f x) (map f xs) (mapped f xs x later)) (here_or_next y x xs has)

-- a start leads to what the imports of its file lead to
module _ (steps imports : List (List ℕ)) (representatives : List ℕ) (there : (f : ℕ) → Leads steps f (representative representatives f)) (back_again : (f : ℕ) → Leads steps (representative representatives f) f)
    (reps : AllWithin (length steps) representatives) (as_long : length representatives ≡ length steps) (within : All (AllWithin (length steps)) imports) where
  below : (t : ℕ) → t < length steps → representative representatives t < length steps
  below t lt = reps t t (omega (arith, lt, as_long))

  pub leads_alike : (s : Start) → IsStart representatives imports s → LeadsAlike steps imports s
  leads_alike s start = record { there = start.there; within = inside; alike = λ g. (forth g, back g) }
    where
      own : List ℕ
      own = get_or imports s.file []

      inside : AllWithin (length steps) s.first
      inside = All-weaker (Contains s.first) (λ h. h < length steps)
          (λ h has. let r = in_map (representative representatives) own h ((start.exact h).0 has) in
          let lt : r.0 < length steps = All-contains (λ x. x < length steps) own r.0 (within s.file [] start.there) r.1 in
          subst (λ x. x < length steps) r.2 (below r.0 lt))
          s.first (All-contains_itself s.first)

      forth : (g : ℕ) → ReachedFrom steps s.first g → ReachedFrom steps own g
      forth g (h, has, walk) =
          let r = in_map (representative representatives) own h ((start.exact h).0 has) in
          let walk' : Leads steps (representative representatives r.0) g = subst (λ x. Leads steps x g) (sym r.2) walk in
          (r.0, r.1, walk_append (there r.0) walk')

      back : (g : ℕ) → ReachedFrom steps own g → ReachedFrom steps s.first g
      back g (t, has, walk) =
          (representative representatives t, (start.exact (representative representatives t)).1 (mapped (representative representatives) own t has), walk_append (back_again t) walk)

-- one more list
pub AreShared-push : (steps imports : List (List ℕ)) (old new : SharedLists) (list : List ℕ) → new.numbers.items ≡ old.numbers.items → new.lists.items ≡ old.lists.items ++ list ∷ []
    → AllWithin (length steps) list → AreShared steps imports old → AreShared steps imports new
AreShared-push steps imports old new list numbers lists within are = record {
  as_many = ap length numbers ∙ are.as_many;
  below = λ f k e. let lt = are.below f k (was f k e) in omega (arith, lt, ap length lists, length_push old.lists.items list);
  own = λ f k e.
      let lt = are.below f k (was f k e) in
      let same : list_at new k ≡ list_at old k = ap (λ ls. get_or ls k []) lists ∙ get_or_append_left old.lists.items (list ∷ []) [] k lt in
      subst (λ l. IsOwnList steps imports f l) (sym same) (are.own f k (was f k e));
  listed = subst (λ ls. All (AllWithin (length steps)) ls) (sym lists) (All-push (AllWithin (length steps)) old.lists.items list are.listed within);
}
  where
    was : (f k : ℕ) → number_at new f ≡ Some k → number_at old f ≡ Some k
    was f k e = sym (ap (λ ns. get_or ns f None) numbers) ∙ e

-- files that get their list
pub AreShared-fill : (steps imports : List (List ℕ)) (number : ℕ) (old new : SharedLists) (files : List ℕ) → number < length old.lists.items → Fills number old new files
    → ((f : ℕ) → Contains files f → Contains (list_at old number) f → IsOwnList steps imports f (list_at old number))
    → AreShared steps imports old → AreShared steps imports new
AreShared-fill steps imports number old new files lt fills each are = record {
  as_many = fills.as_many ∙ are.as_many;
  below = λ f k e. subst (λ ls. k < length ls) (sym fills.lists) (⊎_elim (λ was. are.below f k was) (λ (is, there, has). subst (λ x. x < length old.lists.items) (sym is) lt) (fills.only f k e));
  own = λ f k e.
      let same : list_at new k ≡ list_at old k = ap (λ ls. get_or ls k []) fills.lists in
      subst (λ l. IsOwnList steps imports f l) (sym same)
      (⊎_elim (λ was. are.own f k was) (λ (is, there, has). subst (λ x. IsOwnList steps imports f (list_at old x)) (sym is) (each f there has)) (fills.only f k e));
  listed = subst (λ ls. All (AllWithin (length steps)) ls) (sym fills.lists) are.listed;
}

-- a list of what files that begin alike lead to is that of each that it has
pub own_list : (steps imports : List (List ℕ)) (first list : List ℕ) (run : List Start) → All (LeadsAlike steps imports) run → All (λ s. s.first ≡ first) run
    → IsStrictlyIncreasing list → ((g : ℕ) → Contains list g ↔ ReachedFrom steps first g)
    → (f : ℕ) → Contains (map (λ s. s.file) run) f → Contains list f → IsOwnList steps imports f list
own_list steps imports first list run leads alike ascending exact f there has =
    let r = in_map (λ s. s.file) run f there in
    let lead : LeadsAlike steps imports r.0 = All-contains (LeadsAlike steps imports) run r.0 leads r.1 in
    let same : r.0.first ≡ first = All-contains (λ s. s.first ≡ first) run r.0 alike r.1 in
    let by : (g : ℕ) → ReachedFrom steps first g ↔ ReachedFrom steps (get_or imports f []) g =
    subst (λ x. (g : ℕ) → ReachedFrom steps first g ↔ ReachedFrom steps (get_or imports x []) g) r.2
    (subst (λ x. (g : ℕ) → ReachedFrom steps x g ↔ ReachedFrom steps (get_or imports r.0.file []) g) same lead.alike) in
    record {
      ascending = ascending;
      exact = λ g. (λ c. (by g).0 ((exact g).0 c), λ d. (exact g).1 ((by g).1 d));
      own = has;
    }

-- none of the files yet
pub Fills-none : (number : ℕ) (s : SharedLists) → Fills number s s []
Fills-none number s = record { lists = refl; as_many = refl; only = λ f k e. inl e }

-- one more file
pub Fills-push : (number : ℕ) (old mid new : SharedLists) (files : List ℕ) (f : ℕ) → f < length mid.numbers.items → Fills number old mid files
    → new.lists.items ≡ mid.lists.items → (new.numbers.items ≡ mid.numbers.items) ⊎ ((new.numbers.items ≡ set mid.numbers.items f (Some number)) × Contains (list_at mid number) f)
    → Fills number old new (files ++ f ∷ [])
Fills-push number old mid new files f lt before lists (inl numbers) = record {
  lists = lists ∙ before.lists;
  as_many = ap length numbers ∙ before.as_many;
  only = λ g k e. ⊎_elim inl (λ (is, there, has). inr (is, Contains-append_left files (f ∷ []) g there, has)) (before.only g k (sym (ap (λ ns. get_or ns g None) numbers) ∙ e));
}
Fills-push number old mid new files f lt before lists (inr (numbers, has)) = record {
  lists = lists ∙ before.lists;
  as_many = ap length numbers ∙ (length-set mid.numbers.items f (Some number) ∙ before.as_many);
  only = λ g k e. elim (cases_eq g f) [
    | inl is ↦
        let e' : get_or (set mid.numbers.items f (Some number)) g None ≡ Some k = sym (ap (λ ns. get_or ns g None) numbers) ∙ e in
        let e'' : get_or (set mid.numbers.items f (Some number)) f None ≡ Some k = rw is at e' in
        let some : Some number ≡ Some k = sym (get_or-set_same mid.numbers.items f (Some number) None lt) ∙ e'' in
        let same : k ≡ number = cc (some) in
        inr (same, rw is (Contains-push files f), rw is (subst (λ ls. Contains (get_or ls number []) f) before.lists has))
    | inr other ↦
        let was : number_at mid g ≡ Some k = sym (get_or-set_other mid.numbers.items f g (Some number) None other) ∙ (sym (ap (λ ns. get_or ns g None) numbers) ∙ e) in
        ⊎_elim inl (λ (is, there, has'). inr (is, Contains-append_left files (f ∷ []) g there, has')) (before.only g k was)
  ];
}

-- no file has a list yet
pub AreShared-none : (steps imports : List (List ℕ)) (s : SharedLists) → length s.numbers.items ≡ length imports → All (λ n. n ≡ None) s.numbers.items → s.lists.items ≡ [] → AreShared steps imports s
AreShared-none steps imports s many none no_lists = record {
  as_many = many;
  below = λ f k e. absurd (cc (e, nowhere f));
  own = λ f k e. absurd (cc (e, nowhere f));
  listed = subst (λ ls. All (AllWithin (length steps)) ls) (sym no_lists) (All-nil (AllWithin (length steps)));
}
  where
    nowhere : (f : ℕ) → number_at s f ≡ None
    nowhere f = elim (cases_lt f (length s.numbers.items)) [
      | inl lt ↦ none f None lt
      | inr past ↦ get_or_past s.numbers.items f None past
    ]

-- the starts, in another order
pub leads_sorted : (steps imports : List (List ℕ)) (numbers : List ℕ) (flags : List Bool) → IsTied steps numbers flags → (representatives : List ℕ)
    → ((f : ℕ) → StandsFor numbers flags (representative representatives f) f) → AllWithin (length steps) representatives → length representatives ≡ length steps
    → All (AllWithin (length steps)) imports → (starts sorted : List Start) → IsPermutation starts sorted → All (IsStart representatives imports) starts → All (LeadsAlike steps imports) sorted
leads_sorted steps imports numbers flags tied representatives stands reps as_long within starts sorted moved all =
    All-permutation (LeadsAlike steps imports) starts sorted moved
    (All-weaker (IsStart representatives imports) (LeadsAlike steps imports)
    (leads_alike steps imports representatives (leads_to steps numbers flags tied representatives stands) (leads_from steps numbers flags tied representatives stands) reps as_long within)
    starts all)

-- those of a run of them
module _ (steps imports : List (List ℕ)) (sorted : List Start) (leads : All (LeadsAlike steps imports) sorted) (place : ℕ) (before : place < length sorted) where
  abbrev rest : List Start
  rest = take (length sorted - place) (drop place sorted)

  leads_rest : All (LeadsAlike steps imports) rest
  leads_rest = All-take (LeadsAlike steps imports) (length sorted - place) (drop place sorted) (All-drop (LeadsAlike steps imports) place sorted leads)

  pub leads_run : (count : ℕ) → All (LeadsAlike steps imports) (take count rest)
  leads_run count = All-take (LeadsAlike steps imports) count rest leads_rest

  pub first_within : (d : Start) → (let s = get_or rest 0 d in AllWithin (length steps) s.first)
  first_within d =
      let some : 0 < length rest = omega (arith, before, length-take (length sorted - place) (drop place sorted), length-drop place sorted) in
      let lead : LeadsAlike steps imports (get_or rest 0 d) = leads_rest 0 d some in
      lead.within

  pub files_within : (n count : ℕ) → n ≡ length imports → All (λ s. s.file < n) (take count rest)
  files_within n count same = All-weaker (LeadsAlike steps imports) (λ s. s.file < n) (λ s lead. let lt = lead.there in omega (arith, lt, same)) (take count rest) (leads_run count)

-- a map of one more
pub map_push : {X Y : Type 0} (f : X → Y) (xs : List X) (x : X) → map f (xs ++ x ∷ []) ≡ map f xs ++ f x ∷ []
map_push f [] x = refl
map_push f (y ∷ xs) x = rw (map_push f xs x) refl
