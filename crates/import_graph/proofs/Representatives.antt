-- Steps by way of the files that stand for others.
use Rattle.std.proofs.Common.{◌≡◌, ◌⊎◌, inl, inr, ⊎_elim, ◌↔◌, ℕ, ◌+◌, ◌<◌, ◌≤◌, List, [], ◌∷◌, ◌++◌, Bool, length, get_or, get_or-set_other, get_or-set_same, refl, sym, ap, subst, ◌∙◌, arith}
use Rattle.std.proofs.Math.ListN.{set}
use Rattle.std.specs.Prelude.{All, Contains}
use Rattle.std.proofs.lemmas.Bool.{cases_eq, cases_lt}
use Rattle.std.proofs.lemmas.List.{get_or_default, get_or_past, get_or_push, get_or_append_left, length_push}
use Rattle.std.proofs.lemmas.List.Elements.{Contains-push, Contains-append_left, Contains-push_cases, All-contains, All-weaker, All-contains_itself}
use Rattle.import_graph.specs.Walks.{AllWithin, Lists, Walk, stay, go, ReachedFrom}
use Rattle.import_graph.specs.Ties.{IsTied}
use Rattle.import_graph.specs.Condensed.{Leads, LeadAlike, StandsFor, representative, Adds, IsOne, IsStepOf, ahead, back, onward, IsToTarget, Condenses}
use Rattle.import_graph.proofs.ImportEdges.{walk_map}
use Rattle.import_graph.proofs.Placing.{listed_within}

-- one walk after another
pub walk_append : {Step : ℕ → ℕ → Type 0} {a b c : ℕ} → Walk Step a b → Walk Step b c → Walk Step a c
walk_append stay later = later
walk_append (go first rest) later = go first (walk_append rest later)

-- a walk in place of each step
pub walk_bind : {Step Other : ℕ → ℕ → Type 0} → ((a b : ℕ) → Step a b → Walk Other a b) → {a b : ℕ} → Walk Step a b → Walk Other a b
walk_bind each stay = stay
walk_bind each (go {a = a} {b = b} first rest) = walk_append (each a b first) (walk_bind each rest)

pub Adds-stay : (rows : List (List ℕ)) (from to : ℕ) → from ≡ to → Adds (IsOne from to) rows rows
Adds-stay rows from to same = record {
  kept = λ a b has. has;
  joined = λ a b (x, y). rw (x, y, same) stay;
  only = λ a b has. inl has;
}

pub Adds-one : (rows : List (List ℕ)) (from to : ℕ) → from < length rows → Adds (IsOne from to) rows (set rows from (get_or rows from [] ++ to ∷ []))
Adds-one rows from to lt = record { kept = kept; joined = λ a b (x, y). rw (x, y) (go {a = from} {b = to} last stay); only = only }
  where
    row : List ℕ
    row = get_or rows from [] ++ to ∷ []

    last : Lists (set rows from (get_or rows from [] ++ to ∷ [])) from to
    last = rw (get_or-set_same rows from (get_or rows from [] ++ to ∷ []) [] lt) (Contains-push (get_or rows from []) to)

    kept : (a b : ℕ) → Lists rows a b → Lists (set rows from (get_or rows from [] ++ to ∷ [])) a b
    kept a b has = elim (cases_eq a from) [
      | inl is ↦ let before : Contains (get_or rows from []) b = rw is at has in
          rw (is, get_or-set_same rows from (get_or rows from [] ++ to ∷ []) [] lt) (Contains-append_left (get_or rows from []) (to ∷ []) b before)
      | inr other ↦ rw (get_or-set_other rows from a (get_or rows from [] ++ to ∷ []) [] other) has
    ]

    only : (a b : ℕ) → Lists (set rows from (get_or rows from [] ++ to ∷ [])) a b → Lists rows a b ⊎ IsOne from to a b
    only a b has = elim (cases_eq a from) [
      | inl is ↦
          let there : Contains (get_or rows from [] ++ to ∷ []) b = rw (is, get_or-set_same rows from (get_or rows from [] ++ to ∷ []) [] lt) at has in
          ⊎_elim (λ was. inl (rw is was)) (λ same. inr (is, sym same)) (Contains-push_cases (get_or rows from []) to b there)
      | inr other ↦ inl (rw (get_or-set_other rows from a (get_or rows from [] ++ to ∷ []) [] other) at has)
    ]

-- some steps, and then others, which are all together
Adds-both : {First Second All' : ℕ → ℕ → Type 0} {old mid new : List (List ℕ)} → ((a b : ℕ) → All' a b → First a b ⊎ Second a b) → ((a b : ℕ) → First a b → All' a b) → ((a b : ℕ) → Second a b → All' a b)
    → Adds First old mid → Adds Second mid new → Adds All' old new
Adds-both split first second before after = record {
  kept = λ a b has. after.kept a b (before.kept a b has);
  joined = λ a b step. ⊎_elim (λ one. walk_map after.kept (before.joined a b one)) (λ one. after.joined a b one) (split a b step);
  only = λ a b has. ⊎_elim (λ was. ⊎_elim inl (λ one. inr (first a b one)) (before.only a b was)) (λ one. inr (second a b one)) (after.only a b has);
}

pub Adds-none : (representatives : List ℕ) (rows : List (List ℕ)) (from : ℕ) → Adds (IsToTarget representatives from []) rows rows
Adds-none representatives rows from = record {
  kept = λ a b has. has;
  joined = λ a b (t, has, x, y). absurd (omega (arith, has.1));
  only = λ a b has. inl has;
}

pub Adds-target : (representatives : List ℕ) (old mid new : List (List ℕ)) (from : ℕ) (done : List ℕ) (target to : ℕ) → to ≡ representative representatives target
    → Adds (IsToTarget representatives from done) old mid → Adds (IsOne from to) mid new → Adds (IsToTarget representatives from (done ++ target ∷ [])) old new
Adds-target representatives old mid new from done target to is = Adds-both split
    (λ a b (t, has, x, y). (t, Contains-append_left done (target ∷ []) t has, x, y))
    (λ a b (x, y). (target, Contains-push done target, x, y ∙ is))
  where
    split : (a b : ℕ) → IsToTarget representatives from (done ++ target ∷ []) a b → IsToTarget representatives from done a b ⊎ IsOne from to a b
    split a b (t, has, x, y) = ⊎_elim (λ earlier. inl (t, earlier, x, y))
        (λ same. let e : target ≡ t = same in inr (x, y ∙ ap (representative representatives) (sym e) ∙ sym is))
        (Contains-push_cases done target t has)

module _ (representatives : List ℕ) (file : ℕ) (targets : List ℕ) (to : ℕ) (is : to ≡ representative representatives file) where
  -- to the one that stands for the file, or back
  abbrev IsNear : ℕ → ℕ → Type 0
  IsNear a b = IsOne file to a b ⊎ IsOne to file a b

  parts : {a b : ℕ} → IsStepOf representatives file targets a b → IsNear a b ⊎ IsToTarget representatives to targets a b
  parts ahead = inl (inl (refl, sym is))
  parts back = inl (inr (sym is, refl))
  parts (onward {t} has) = inr (t, has, sym is, refl)

  near : (a b : ℕ) → IsNear a b → IsStepOf representatives file targets a b
  near a b (inl (x, y)) = rw (x, y ∙ is) ahead
  near a b (inr (x, y)) = rw (x ∙ is, y) back

  pub Adds-file : (old first second new : List (List ℕ)) → Adds (IsOne file to) old first → Adds (IsOne to file) first second → Adds (IsToTarget representatives to targets) second new
      → Adds (IsStepOf representatives file targets) old new
  Adds-file old first second new forth home all = Adds-both (λ a b step. parts step) near (λ a b (t, has, x, y). rw (x ∙ is, y) (onward {t = t} has))
      (Adds-both {All' = IsNear} (λ a b step. step) (λ a b one. inl one) (λ a b one. inr one) forth home) all

pub Condenses-none : (next : List (List ℕ)) (representatives : List ℕ) (rows : List (List ℕ)) → All (λ (row : List ℕ). row ≡ []) rows → Condenses next representatives rows 0
Condenses-none next representatives rows empty = record {
  joined = λ f a b lt step. absurd (omega (arith, lt));
  only = λ a b has. absurd (none a b has);
}
  where
    none : (a b : ℕ) → Lists rows a b → ⊥
    none a b has = elim (cases_lt a (length rows)) [
      | inl lt ↦ let e : get_or rows a [] ≡ [] = empty a [] lt in let bad : Contains {X = ℕ} [] b = rw e at has in omega (arith, bad.1)
      | inr past ↦ let e : get_or rows a [] ≡ [] = get_or_past rows a [] past in let bad : Contains {X = ℕ} [] b = rw e at has in omega (arith, bad.1)
    ]

pub Condenses-push : (next : List (List ℕ)) (representatives : List ℕ) (old new : List (List ℕ)) (count : ℕ)
    → Condenses next representatives old count → Adds (IsStepOf representatives count (get_or next count [])) old new → Condenses next representatives new (count + 1)
Condenses-push next representatives old new count before one = record {
  joined = λ f a b lt step. elim (cases_eq f count) [
    | inl is ↦ one.joined a b (subst (λ g. IsStepOf representatives g (get_or next g []) a b) is step)
    | inr other ↦ walk_map one.kept (before.joined f a b (omega (arith, lt, other)) step)
  ];
  only = λ a b has. ⊎_elim (before.only a b) (λ step. (count, step)) (one.only a b has);
}

-- one more file
pub stands-push : (numbers : List ℕ) (flags : List Bool) (found : List ℕ) (r : ℕ) → ((f : ℕ) → StandsFor numbers flags (representative found f) f) → StandsFor numbers flags r (length found)
    → (f : ℕ) → StandsFor numbers flags (representative (found ++ r ∷ []) f) f
stands-push numbers flags found r before one f = elim (cases_lt f (length found)) [
  | inl lt ↦ rw (get_or_append_left found (r ∷ []) f f lt) (before f)
  | inr past ↦ elim (cases_eq f (length found)) [
    | inl is ↦ rw (is, get_or_push found r (length found) (length found) refl) one
    | inr beyond ↦ inl (get_or_past (found ++ r ∷ []) f f (omega (arith, length_push found r, past, beyond)))
  ]
]

-- each file and the one that stands for it lead to each other
module _ (next : List (List ℕ)) (numbers : List ℕ) (flags : List Bool) (tied : IsTied next numbers flags) (representatives : List ℕ)
    (stands : (f : ℕ) → StandsFor numbers flags (representative representatives f) f) where
  pub leads_to : (f : ℕ) → Leads next f (representative representatives f)
  leads_to f = ⊎_elim (λ same. rw same stay) (λ (of_it, of_f, number). tied f (representative representatives f) of_f of_it (sym number)) (stands f)

  pub leads_from : (f : ℕ) → Leads next (representative representatives f) f
  leads_from f = ⊎_elim (λ same. rw same stay) (λ (of_it, of_f, number). tied (representative representatives f) f of_it of_f number) (stands f)

  step_leads : {f a b : ℕ} → IsStepOf representatives f (get_or next f []) a b → Leads next a b
  step_leads {f} ahead = leads_to f
  step_leads {f} back = leads_from f
  step_leads {f} (onward {t} has) = walk_append (leads_from f) (go {a = f} {b = t} has (leads_to t))

  pub LeadAlike-from : (rows : List (List ℕ)) (count : ℕ) → All (AllWithin (length next)) next → length next ≤ count → Condenses next representatives rows count → LeadAlike rows next
  LeadAlike-from rows count within whole all a b = (walk_bind (λ x y has. step_leads (all.only x y has).1), walk_bind steps_lead)
    where
      steps_lead : (x y : ℕ) → Lists next x y → Leads rows x y
      steps_lead x y step =
          let lt = listed_within next within x y step in
          let from : x < count = omega (arith, lt.0, whole) in
          walk_append (all.joined x _ _ from ahead) (walk_append (all.joined x _ _ from (onward {t = y} step)) (all.joined y _ _ (omega (arith, lt.1, whole)) back))

-- the same steps lead alike
pub LeadAlike-same : (rows some next : List (List ℕ)) → ((a b : ℕ) → Lists rows a b ↔ Lists some a b) → LeadAlike some next → LeadAlike rows next
LeadAlike-same rows some next same alike a b = (
  λ walk. (alike a b).0 (walk_map (λ x y. (same x y).0) walk),
  λ walk. walk_map (λ x y. (same x y).1) ((alike a b).1 walk),
)

-- and reach the same files
pub reached_alike : (rows next : List (List ℕ)) → LeadAlike rows next → (start : List ℕ) (g : ℕ) → ReachedFrom rows start g ↔ ReachedFrom next start g
reached_alike rows next alike start g = (
  λ (h, has, walk). (h, has, (alike h g).0 walk),
  λ (h, has, walk). (h, has, (alike h g).1 walk),
)

-- what is listed is below the limit
listed_below : (n : ℕ) (rows : List (List ℕ)) → All (AllWithin n) rows → (a b : ℕ) → Lists rows a b → b < n
listed_below n rows within a b has = elim (cases_lt a (length rows)) [
  | inl lt ↦ All-contains (λ x. x < n) (get_or rows a []) b (within a [] lt) has
  | inr past ↦
      let none : get_or rows a [] ≡ [] = get_or_past rows a [] past in
      let bad : Contains {X = ℕ} [] b = rw none at has in absurd (omega (arith, bad.1))
]

-- rows that list the same stay within
pub within_same : (n : ℕ) (rows some : List (List ℕ)) → ((a b : ℕ) → Lists rows a b ↔ Lists some a b) → All (AllWithin n) some → All (AllWithin n) rows
within_same n rows some same within k d lt =
    All-weaker (Contains (get_or rows k d)) (λ g. g < n)
    (λ g has. let listed : Lists rows k g = rw (default rows k d lt) at has in listed_below n some within k g ((same k g).0 listed))
    (get_or rows k d) (All-contains_itself (get_or rows k d))
  where
    default : (rows : List (List ℕ)) (k : ℕ) (d : List ℕ) → k < length rows → get_or rows k d ≡ get_or rows k []
    default rows k d lt = get_or_default rows k d [] lt

-- one more row that lists the same
pub same-push : (found rows : List (List ℕ)) (row : List ℕ) → ((a b : ℕ) → a < length found → Lists found a b ↔ Lists rows a b) → ((b : ℕ) → Contains row b ↔ Lists rows (length found) b)
    → (a b : ℕ) → a < length found + 1 → Lists (found ++ row ∷ []) a b ↔ Lists rows a b
same-push found rows row before last a b lt = elim (cases_eq a (length found)) [
  | inl is ↦ rw (is, get_or_push found row [] (length found) refl) (last b)
  | inr other ↦ rw (get_or_append_left found (row ∷ []) [] a (omega (arith, lt, other))) (before a b (omega (arith, lt, other)))
]

pub same_all : (found rows : List (List ℕ)) → length found ≡ length rows → ((a b : ℕ) → a < length found → Lists found a b ↔ Lists rows a b) → (a b : ℕ) → Lists found a b ↔ Lists rows a b
same_all found rows long same a b = elim (cases_lt a (length found)) [
  | inl lt ↦ same a b lt
  | inr past ↦
      let none : get_or found a [] ≡ [] = get_or_past found a [] past in
      let none' : get_or rows a [] ≡ [] = get_or_past rows a [] (omega (arith, past, long)) in
      rw (none, none') (λ has. has, λ has. has)
]
