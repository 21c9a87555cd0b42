-- One more visit.
use Rattle.std.proofs.Common.{◌≡◌, ◌⊎◌, inl, inr, ⊎_elim, ◌↔◌, ℕ, ◌<◌, ◌≤◌, List, [], ◌∷◌, ◌++◌, true, false, length, length-set, get_or, get_or-set_other, get_or-set_same, refl, sym, ap, ◌∙◌, arith}
use Rattle.std.proofs.Math.ListN.{set}
use Rattle.std.proofs.lemmas.Bool.{cases_Bool, cases_eq}
use Rattle.std.proofs.lemmas.List.{length_push, get_or_append_left}
use Rattle.std.proofs.lemmas.List.Elements.{Contains-push, Contains-append_left, Contains-push_cases}
use Rattle.std.proofs.lemmas.List.Sums.{sum_by-set}
use Rattle.import_graph.specs.FileSearches.{IsSeen, IsListed, cost, weight, Visits, VisitsAll}
use Rattle.import_graph.specs.declared.file_search.FileSearch.{FileSearch}

pub VisitsAll-none : (s : FileSearch) → VisitsAll s s []
VisitsAll-none s = record {
  as_long = refl;
  keeps = λ g m. m;
  marks = λ g has. absurd (omega (arith, has.1));
  others = λ g m. inl m;
  listed = λ is. is;
  longer = omega arith;
  in_place = λ k lt. refl;
  even = refl;
}

-- what one visit does
module _ (old new : FileSearch) (f : ℕ) (one : Visits old new f) (there : f < length old.seen.items) where
  one_long : length new.seen.items ≡ length old.seen.items
  one_long = elim (cases_Bool (get_or old.seen.items f false)) [
    | inl was ↦ ap length (one.again was).0
    | inr not_yet ↦ rw (one.first not_yet).0 (length-set old.seen.items f true)
  ]

  one_marks : IsSeen new f
  one_marks = elim (cases_Bool (get_or old.seen.items f false)) [
    | inl was ↦ rw (one.again was).0 was
    | inr not_yet ↦ rw (one.first not_yet).0 (get_or-set_same old.seen.items f true false there)
  ]

  one_keeps : (g : ℕ) → IsSeen old g → IsSeen new g
  one_keeps g m = elim (cases_eq g f) [
    | inl is ↦ rw is one_marks
    | inr other ↦ elim (cases_Bool (get_or old.seen.items f false)) [
      | inl was ↦ rw (one.again was).0 m
      | inr not_yet ↦ rw (one.first not_yet).0 (get_or-set_other old.seen.items f g true false other ∙ m)
    ]
  ]

  one_others : (g : ℕ) → IsSeen new g → IsSeen old g ⊎ (f ≡ g)
  one_others g m = elim (cases_eq g f) [
    | inl is ↦ inr (sym is)
    | inr other ↦ elim (cases_Bool (get_or old.seen.items f false)) [
      | inl was ↦ inl (rw (one.again was).0 at m)
      | inr not_yet ↦ let m' : get_or (set old.seen.items f true) g false ≡ true = rw (one.first not_yet).0 at m in
          inl (sym (get_or-set_other old.seen.items f g true false other) ∙ m')
    ]
  ]

  -- the file, and what was seen before
  pub one_seen : (g : ℕ) → IsSeen new g ↔ ((g ≡ f) ⊎ IsSeen old g)
  one_seen g = (
    λ m. ⊎_elim inr (λ same. inl (sym same)) (one_others g m),
    λ s. ⊎_elim (λ is. rw is one_marks) (one_keeps g) s,
  )

  pub one_listed : IsListed old → IsListed new
  one_listed is g = elim (cases_Bool (get_or old.seen.items f false)) [
    | inl was ↦ rw ((one.again was).0, (one.again was).1) (is g)
    | inr not_yet ↦ (
      λ m. rw (one.first not_yet).1 (⊎_elim (λ before. Contains-append_left old.found.items (f ∷ []) g ((is g).0 before)) (λ same. let e : f ≡ g = same in rw (← e) (Contains-push old.found.items f)) (one_others g m)),
      λ has. ⊎_elim (λ before. one_keeps g ((is g).1 before)) (λ same. let e : f ≡ g = same in rw (← e) one_marks) (Contains-push_cases old.found.items f g (rw (one.first not_yet).1 at has)),
    )
  ]

  one_longer : length old.found.items ≤ length new.found.items
  one_longer = elim (cases_Bool (get_or old.seen.items f false)) [
    | inl was ↦ rw (one.again was).1 (omega arith)
    | inr not_yet ↦ rw ((one.first not_yet).1, length_push old.found.items f) (omega arith)
  ]

  one_in_place : (k : ℕ) → k < length old.found.items → get_or new.found.items k 0 ≡ get_or old.found.items k 0
  one_in_place k lt = elim (cases_Bool (get_or old.seen.items f false)) [
    | inl was ↦ rw (one.again was).1 refl
    | inr not_yet ↦ rw (one.first not_yet).1 (get_or_append_left old.found.items (f ∷ []) 0 k lt)
  ]

  one_even : weight new ≡ weight old
  one_even = elim (cases_Bool (get_or old.seen.items f false)) [
    | inl was ↦ rw ((one.again was).0, (one.again was).1) refl
    | inr not_yet ↦
        let sums = sum_by-set cost old.seen.items f true false there in
        let was : cost (get_or old.seen.items f false) ≡ 1 = ap cost not_yet in
        rw ((one.first not_yet).0, (one.first not_yet).1, length_push old.found.items f) (omega (arith, sums, was))
  ]

module _ (old mid new : FileSearch) (files : List ℕ) (f : ℕ) (all : VisitsAll old mid files) (one : Visits mid new f) (there : f < length mid.seen.items) where
  pub VisitsAll-push : VisitsAll old new (files ++ f ∷ [])
  VisitsAll-push = record {
    as_long = one_long mid new f one there ∙ all.as_long;
    keeps = λ g m. one_keeps mid new f one there g (all.keeps g m);
    marks = λ g has. ⊎_elim (λ before. one_keeps mid new f one there g (all.marks g before))
        (λ same. let e : f ≡ g = same in rw (← e) (one_marks mid new f one there))
        (Contains-push_cases files f g has);
    others = λ g m. ⊎_elim
        (λ was. ⊎_elim inl (λ has. inr (Contains-append_left files (f ∷ []) g has)) (all.others g was))
        (λ same. inr (rw (← same) (Contains-push files f)))
        (one_others mid new f one there g m);
    listed = λ is. one_listed mid new f one there (all.listed is);
    longer = omega (arith, all.longer, one_longer mid new f one there);
    in_place = λ k lt. one_in_place mid new f one there k (omega (arith, lt, all.longer)) ∙ all.in_place k lt;
    even = one_even mid new f one there ∙ all.even;
  }
