-- Files are given numbers, turn by turn.
use Rattle.std.proofs.Common.{◌≡◌, ◌⊎◌, inl, inr, ⊎_elim, ℕ, ◌+◌, ◌<◌, ◌≤◌, List, [], ◌∷◌, ◌++◌, length, length-set, get_or, get_or-set_other, get_or-set_same, refl, ap, sym, ◌∙◌, arith}
use Rattle.std.specs.Prelude.{All, Contains}
use Rattle.std.proofs.lemmas.Bool.{cases_eq, cases_lt}
use Rattle.std.proofs.lemmas.Bool.Decides.{nat_tests}
use Rattle.std.proofs.lemmas.List.{length_push, get_or_past}
use Rattle.std.proofs.lemmas.List.Sums.{sum_by-set}
use Rattle.std.proofs.lemmas.List.Elements.{Contains-push, Contains-append_left, Contains-push_cases, All-contains}
use Rattle.import_graph.specs.Walks.{AllWithin, Lists}
use Rattle.import_graph.specs.Components.{cost, weight, number_of, Places, PlacesAll, Settles}
use Rattle.import_graph.specs.declared.components.Placing.{Placing}

pub PlacesAll-none : (none number : ℕ) (s : Placing) → PlacesAll none number s s []
PlacesAll-none none number s = record {
  as_long = refl;
  same_or_new = λ g. inl refl;
  numbered = λ g has. absurd (omega (arith, has.1));
  waited = λ g has. has;
  waiting = λ g has. inl has;
  lighter = omega arith;
}

cost_none : (none n : ℕ) → n ≡ none → cost none n ≡ 1
cost_none none n e = grind (arith, nat_tests)

cost_given : (none n : ℕ) → n < none → cost none n ≡ 0
cost_given none n lt = grind (arith, nat_tests)

module _ (none number : ℕ) (below : number < none) (old mid new : Placing) (files : List ℕ) (f : ℕ)
    (all : PlacesAll none number old mid files) (one : Places none number mid new f) (lt : f < length mid.numbers.items) where
  abbrev IsFirst : Type 0
  IsFirst = number_of mid f ≡ none

  given : IsFirst → number_of new f ≡ number
  given e = rw (one.first e).0 (get_or-set_same mid.numbers.items f number 0 lt)

  as_long : length new.numbers.items ≡ length mid.numbers.items
  as_long = elim (cases_eq (number_of mid f) none) [
    | inl e ↦ rw (one.first e).0 (length-set mid.numbers.items f number)
    | inr other ↦ ap length (one.again other).0
  ]

  same_or_new : (g : ℕ) → (number_of new g ≡ number_of mid g) ⊎ ((number_of mid g ≡ none) × (number_of new g ≡ number) × Contains new.pending.items g)
  same_or_new g = elim (cases_eq (number_of mid f) none) [
    | inl e ↦ elim (cases_eq g f) [
      | inl is ↦ inr (rw is e, rw is (given e), rw ((one.first e).1, is) (Contains-push mid.pending.items f))
      | inr other ↦ inl (rw (one.first e).0 (get_or-set_other mid.numbers.items f g number 0 other))
    ]
    | inr other ↦ inl (ap (λ (ns : List ℕ). get_or ns g 0) (one.again other).0)
  ]

  numbered : number_of new f ≡ none → ⊥
  numbered is = elim (cases_eq (number_of mid f) none) [
    | inl e ↦ let n = given e in omega (arith, n, is)
    | inr other ↦ other (sym (ap (λ (ns : List ℕ). get_or ns f 0) (one.again other).0) ∙ is)
  ]

  waited : (g : ℕ) → Contains mid.pending.items g → Contains new.pending.items g
  waited g has = elim (cases_eq (number_of mid f) none) [
    | inl e ↦ rw (one.first e).1 (Contains-append_left mid.pending.items (f ∷ []) g has)
    | inr other ↦ rw (one.again other).1 has
  ]

  waiting : (g : ℕ) → Contains new.pending.items g → Contains mid.pending.items g ⊎ ((g < length mid.numbers.items) × (number_of new g ≡ number))
  waiting g has = elim (cases_eq (number_of mid f) none) [
    | inl e ↦ ⊎_elim inl (λ same. let is : f ≡ g = same in inr (rw (← is) lt, rw (← is) (given e)))
        (Contains-push_cases mid.pending.items f g (rw (one.first e).1 at has))
    | inr other ↦ inl (rw (one.again other).1 at has)
  ]

  lighter : weight none new ≤ weight none mid
  lighter = elim (cases_eq (number_of mid f) none) [
    | inl e ↦
        let sums = sum_by-set (cost none) mid.numbers.items f number 0 lt in
        let was = cost_none none (number_of mid f) e in
        let is = cost_given none number below in
        rw ((one.first e).0, (one.first e).1, length_push mid.pending.items f) (omega (arith, sums, was, is))
    | inr other ↦ rw ((one.again other).0, (one.again other).1) (omega arith)
  ]

  pub PlacesAll-push : PlacesAll none number old new (files ++ f ∷ [])
  PlacesAll-push = record {
    as_long = as_long ∙ all.as_long;
    same_or_new = λ g. ⊎_elim
        (λ same. ⊎_elim (λ before. inl (same ∙ before)) (λ (was, is, waits). inr (was, same ∙ is, waited g waits)) (all.same_or_new g))
        (λ (was, is, waits). ⊎_elim (λ before. inr (sym before ∙ was, is, waits)) (λ (first, given, waits'). inr (first, is, waits)) (all.same_or_new g))
        (same_or_new g);
    numbered = λ g has is. ⊎_elim
        (λ before. ⊎_elim (λ same. all.numbered g before (sym same ∙ is)) (λ (was, given, waits). omega (arith, given, is, below)) (same_or_new g))
        (λ same. let e : f ≡ g = same in numbered (rw e is))
        (Contains-push_cases files f g has);
    waited = λ g has. waited g (all.waited g has);
    waiting = λ g has. ⊎_elim
        (λ in_mid. ⊎_elim inl (λ (there, is). inr (there, ⊎_elim (λ same. same ∙ is) (λ (was, given, waits). given) (same_or_new g))) (all.waiting g in_mid))
        (λ (there, is). inr (rw (← all.as_long) there, is))
        (waiting g has);
    lighter = omega (arith, lighter, all.lighter);
  }

-- what is listed is there
pub listed_within : (imports : List (List ℕ)) → All (AllWithin (length imports)) imports → (a b : ℕ) → Lists imports a b → (a < length imports) × (b < length imports)
listed_within imports within a b has = elim (cases_lt a (length imports)) [
  | inl lt ↦ (lt, All-contains (λ x. x < length imports) (get_or imports a []) b (within a [] lt) has)
  | inr past ↦
      let none : get_or imports a [] ≡ [] = get_or_past imports a [] past in
      let bad : Contains {X = ℕ} [] b = rw none at has in absurd (omega (arith, bad.1))
]

-- `mid` is settled but for what waits and for the files of `open`, all that is listed for which is placed now
module _ (imports : List (List ℕ)) (within : All (AllWithin (length imports)) imports) (none number : ℕ) (low : number < none) (mid new : Placing) (files : List ℕ)
    (long : length mid.numbers.items ≡ length imports)
    (below : (g : ℕ) → g < length imports → (number_of mid g < number + 1) ⊎ (number_of mid g ≡ none))
    (waits : (g : ℕ) → Contains mid.pending.items g → (g < length imports) × (number_of mid g + 1 ≡ number + 1))
    (left : ℕ → Type 0)
    (settled : (a b : ℕ) → Lists imports a b → (number_of mid b ≤ number_of mid a) ⊎ (Contains mid.pending.items a ⊎ left a))
    (covered : (a b : ℕ) → Lists imports a b → left a → Contains files b × (number_of mid a + 1 ≡ number + 1))
    (all : PlacesAll none number mid new files) where
  below_now : (g : ℕ) → g < length imports → (number_of new g < number + 1) ⊎ (number_of new g ≡ none)
  below_now g lt = ⊎_elim
      (λ same. ⊎_elim (λ less. inl (rw same less)) (λ is. inr (same ∙ is)) (below g lt))
      (λ (was, is, waits). inl (omega (arith, is)))
      (all.same_or_new g)

  settled_now : (a b : ℕ) → Lists imports a b → (number_of new b ≤ number_of new a) ⊎ Contains new.pending.items a
  settled_now a b step = ⊎_elim
      (λ same_a. ⊎_elim
      (λ le. ⊎_elim
      (λ same_b. inl (omega (arith, same_a, same_b, le)))
      (λ (was, is, later). ⊎_elim (λ less. absurd (omega (arith, less, le, was, low))) (λ e. inl (omega (arith, same_a, e, is, low))) (below a (listed_within imports within a b step).0))
      (all.same_or_new b))
      (λ rest. ⊎_elim (λ waiting. inr (all.waited a waiting))
      (λ opened. let c = covered a b step opened in
      ⊎_elim (λ less. inl (omega (arith, less, c.1, same_a))) (λ e. absurd (all.numbered b c.0 e)) (below_now b (listed_within imports within a b step).1))
      rest)
      (settled a b step))
      (λ (was, is, later). inr later)
      (all.same_or_new a)

  pub Settles-step : Settles imports none (number + 1) new
  Settles-step = record {
    as_long = all.as_long ∙ long;
    below = below_now;
    waiting = λ g has. ⊎_elim
        (λ before. let w = waits g before in (w.0, ⊎_elim (λ same. omega (arith, same, w.1)) (λ (was, is, later). omega (arith, is)) (all.same_or_new g)))
        (λ (there, is). (rw (← long) there, omega (arith, is)))
        (all.waiting g has);
    settled = settled_now;
  }

-- a new number is taken
pub Settles-start : (imports : List (List ℕ)) → All (AllWithin (length imports)) imports → (none number : ℕ) → number < none → (s t : Placing) (f : ℕ)
    → Settles imports none number s → s.pending.items ≡ [] → PlacesAll none number s t (f ∷ []) → Settles imports none (number + 1) t
Settles-start imports within none number low s t f so_far done all =
    Settles-step imports within none number low s t (f ∷ []) so_far.as_long
    (λ g lt. ⊎_elim (λ less. inl (omega (arith, less))) inr (so_far.below g lt))
    (λ g has. let bad : Contains {X = ℕ} [] g = rw done at has in absurd (omega (arith, bad.1)))
    (λ a. ⊥)
    (λ a b step. ⊎_elim inl (λ waits. inr (inl waits)) (so_far.settled a b step))
    (λ a b step bad. absurd bad)
    all

-- `mid` is `old` with the last file that waits taken out
module _ (imports : List (List ℕ)) (within : All (AllWithin (length imports)) imports) (none number : ℕ) (low : number < none) (old mid new : Placing) (f : ℕ)
    (so_far : Settles imports none (number + 1) old) (same : mid.numbers.items ≡ old.numbers.items) (popped : old.pending.items ≡ mid.pending.items ++ f ∷ [])
    (all : PlacesAll none number mid new (get_or imports f [])) where
  f_waits : Contains old.pending.items f
  f_waits = rw popped (Contains-push mid.pending.items f)

  is_same : (g : ℕ) → number_of mid g ≡ number_of old g
  is_same g = ap (λ (ns : List ℕ). get_or ns g 0) same

  pub Settles-turn : Settles imports none (number + 1) new
  Settles-turn =
      Settles-step imports within none number low mid new (get_or imports f []) (ap length same ∙ so_far.as_long)
      (λ g lt. ⊎_elim (λ less. inl (rw is_same less)) (λ e. inr (is_same g ∙ e)) (so_far.below g lt))
      (λ g has. let w = so_far.waiting g (rw popped (Contains-append_left mid.pending.items (f ∷ []) g has)) in (w.0, omega (arith, w.1, is_same g)))
      (λ a. f ≡ a)
      (λ a b step. ⊎_elim (λ le. inl (omega (arith, le, is_same a, is_same b))) (λ waits. inr (Contains-push_cases mid.pending.items f a (rw popped at waits))) (so_far.settled a b step))
      (λ a b step e. (rw e step, rw (← e) (let w = so_far.waiting f f_waits in omega (arith, w.1, is_same f))))
      all

  pub turn-lighter : weight none new < weight none old
  turn-lighter = let l = all.lighter in
      let m : weight none mid < weight none old = rw (same, popped, length_push mid.pending.items f) (omega arith) in omega (arith, l, m)
