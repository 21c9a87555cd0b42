-- Lists of which each test keeps as many, and lists in an order.
use Rattle.std.proofs.Common.{◌≡◌, ◌∙◌, sym, ap, ap₂, refl, inl, inr, ◌&&◌, ◌==◌, ◌+◌, ◌<◌, ℕ, suc, List, [], ◌∷◌, ◌++◌, Bool, true, false, cond, not, map, filter, length, arith}
use Rattle.std.specs.Prelude.{All}
use Rattle.std.specs.List.{list_any, sum_by}
use Rattle.std.specs.List.Sorted.{IsPermutation}
use Rattle.std.proofs.lemmas.Bool.{cases_Bool}
use Rattle.std.proofs.lemmas.Bool.Decides.{nat_tests}
use Rattle.std.proofs.lemmas.List.{length-append, length-map}
use Rattle.std.proofs.lemmas.List.Elements.{All-cons, All-nil, filter-append}
use Rattle.std.proofs.lemmas.List.Sorted.{sum_by-IsPermutation}
use Rattle.std.proofs.lemmas.List.Sums.{sum_by-cons}
use Rattle.proto_names.proofs.Hashes.{keeps_mapped}

pub fitting : (a b : ℕ) → not (a == b) ≡ false → a ≡ b
fitting a b e = grind (arith, nat_tests)

pub fits_so : (a b : ℕ) → a ≡ b → not (a == b) ≡ false
fits_so a b e = grind (arith, nat_tests)

-- how many a test keeps
module _ {X : Type 0} where
  counted : (p : X → Bool) (xs : List X) → length (filter p xs) ≡ sum_by (λ x. cond (p x) 1 0) xs
  counted p [] = refl
  counted p (x ∷ xs) = elim (cases_Bool (p x)) [
    | inl passes ↦
        let one : ◌≡◌ {A = ℕ} (cond (p x) 1 0) 1 = rw passes refl in
        let more : length (filter p (x ∷ xs)) ≡ suc (length (filter p xs)) = rw passes refl in
        omega (arith, one, more, counted p xs, sum_by-cons (λ x. cond (p x) 1 0) x xs)
    | inr fails ↦
        let none : ◌≡◌ {A = ℕ} (cond (p x) 1 0) 0 = rw fails refl in
        let same : length (filter p (x ∷ xs)) ≡ length (filter p xs) = rw fails refl in
        omega (arith, none, same, counted p xs, sum_by-cons (λ x. cond (p x) 1 0) x xs)
  ]

  pub same_moved : (xs ys : List X) → IsPermutation xs ys → (p : X → Bool) → length (filter p xs) ≡ length (filter p ys)
  same_moved xs ys moved p = counted p xs ∙ sym (sum_by-IsPermutation (λ x. cond (p x) 1 0) xs ys moved) ∙ sym (counted p ys)

  pub kept_twice : (p q : X → Bool) (xs : List X) → filter p (filter q xs) ≡ filter (λ x. q x && p x) xs
  kept_twice p q [] = refl
  kept_twice p q (x ∷ xs) = elim (cases_Bool (q x)) [
    | inl holds ↦ elim (cases_Bool (p x)) [
      | inl passes ↦ rw (holds, passes, kept_twice p q xs) refl
      | inr fails ↦ rw (holds, fails, kept_twice p q xs) refl
    ]
    | inr other ↦ rw (other, kept_twice p q xs) refl
  ]

  -- of lists that are the same, those that a test keeps are
  pub same_kept : (xs ys : List X) → ((p : X → Bool) → length (filter p xs) ≡ length (filter p ys)) → (q p : X → Bool) → length (filter p (filter q xs)) ≡ length (filter p (filter q ys))
  same_kept xs ys same q p = ap length (kept_twice p q xs) ∙ same (λ x. q x && p x) ∙ sym (ap length (kept_twice p q ys))

  -- of two lists it keeps as many as of each
  pub counted_both : (p : X → Bool) (xs ys : List X) → length (filter p (xs ++ ys)) ≡ length (filter p xs) + length (filter p ys)
  counted_both p xs ys = ap length (filter-append p xs ys) ∙ length-append (filter p xs) (filter p ys)

  pub same_both : (xs ys us vs : List X) → ((p : X → Bool) → length (filter p xs) ≡ length (filter p us)) → ((p : X → Bool) → length (filter p ys) ≡ length (filter p vs))
      → (p : X → Bool) → length (filter p (xs ++ ys)) ≡ length (filter p (us ++ vs))
  same_both xs ys us vs front back p =
      ap length (filter-append p xs ys) ∙ length-append (filter p xs) (filter p ys) ∙ ap₂ (λ (m n : ℕ). m + n) (front p) (back p)
      ∙ sym (length-append (filter p us) (filter p vs)) ∙ sym (ap length (filter-append p us vs))

  some_kept : (p : X → Bool) (xs : List X) → list_any p xs ≡ true → 0 < length (filter p xs)
  some_kept p [] some = absurd (cc (some))
  some_kept p (x ∷ xs) some = elim (cases_Bool (p x)) [
    | inl passes ↦ rw passes (omega arith)
    | inr fails ↦ rw fails (some_kept p xs (rw fails at some))
  ]

  none_kept : (p : X → Bool) (xs : List X) → list_any p xs ≡ false → length (filter p xs) ≡ 0
  none_kept p [] none = refl
  none_kept p (x ∷ xs) none = elim (cases_Bool (p x)) [
    | inl passes ↦ absurd (cc (rw passes at none))
    | inr fails ↦ rw fails (none_kept p xs (rw fails at none))
  ]

  -- whether a test holds of one of them
  pub same_any : (xs ys : List X) → ((p : X → Bool) → length (filter p xs) ≡ length (filter p ys)) → (p : X → Bool) → list_any p xs ≡ list_any p ys
  same_any xs ys same p = elim (cases_Bool (list_any p xs)) [
    | inl some ↦ elim (cases_Bool (list_any p ys)) [
      | inl there ↦ some ∙ sym there
      | inr none ↦
          let kept : 0 < length (filter p xs) = some_kept p xs some in
          let gone : length (filter p ys) ≡ 0 = none_kept p ys none in
          absurd (omega (arith, kept, gone, same p))
    ]
    | inr none ↦ elim (cases_Bool (list_any p ys)) [
      | inl some ↦
          let kept : 0 < length (filter p ys) = some_kept p ys some in
          let gone : length (filter p xs) ≡ 0 = none_kept p xs none in
          absurd (omega (arith, kept, gone, same p))
      | inr gone ↦ none ∙ sym gone
    ]
  ]

  all_or : (P : X → Type 0) (p : X → Bool) → ((x : X) → p x ≡ false → P x) → (xs : List X) → list_any p xs ≡ false → All P xs
  all_or P p holds [] none = All-nil P
  all_or P p holds (x ∷ xs) none = elim (cases_Bool (p x)) [
    | inl passes ↦ absurd (cc (rw passes at none))
    | inr fails ↦ All-cons P x xs (holds x fails) (all_or P p holds xs (rw fails at none))
  ]

  none_fails : (P : X → Type 0) (p : X → Bool) → ((x : X) → P x → p x ≡ false) → (xs : List X) → All P xs → list_any p xs ≡ false
  none_fails P p fails [] all = refl
  none_fails P p fails (x ∷ xs) all = rw (fails x (all 0 x (omega arith))) (none_fails P p fails xs (λ k d lt. all (suc k) d (omega (arith, lt))))

  -- what holds of each of the ones holds of each of the others, where a test says where it fails
  pub same_all : (P : X → Type 0) (p : X → Bool) → ((x : X) → p x ≡ false → P x) → ((x : X) → P x → p x ≡ false) → (xs ys : List X)
      → ((q : X → Bool) → length (filter q xs) ≡ length (filter q ys)) → All P xs → All P ys
  same_all P p holds fails xs ys same all = all_or P p holds ys (sym (same_any xs ys same p) ∙ none_fails P p fails xs all)

module _ {X Y : Type 0} (f : X → Y) (q : Y → Bool) where
  kept_mapped : (xs : List X) → length (filter q (map f xs)) ≡ length (filter (λ x. q (f x)) xs)
  kept_mapped xs = ap length (keeps_mapped q f xs) ∙ length-map (filter (λ x. q (f x)) xs) f

pub same_mapped : {X Y : Type 0} (f : X → Y) (xs ys : List X) → ((p : X → Bool) → length (filter p xs) ≡ length (filter p ys)) → (q : Y → Bool) → length (filter q (map f xs)) ≡ length (filter q (map f ys))
same_mapped f xs ys same q = kept_mapped f q xs ∙ same (λ x. q (f x)) ∙ sym (kept_mapped f q ys)
