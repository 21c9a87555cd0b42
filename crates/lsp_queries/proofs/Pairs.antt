-- What holds of each two elements of a list.
use Rattle.std.proofs.Common.{◌≡◌, ◌⊎◌, ◌∙◌, inl, inr, ℕ, zero, suc, ◌<◌, List, [], ◌∷◌, ◌++◌, length, get_or, map, refl, sym, ap, subst, arith}
use Rattle.std.specs.Prelude.{All, Contains, ◌≢◌}
use Rattle.std.specs.List.{AllPairs, swap}
use Rattle.std.specs.List.Sorted.{IsPermutation}
use Rattle.std.proofs.lemmas.Bool.{cases_eq, cases_order}
use Rattle.std.proofs.lemmas.List.{get_or_default}
use Rattle.std.proofs.lemmas.List.Edits.{swapped_from_swap}
use Rattle.std.proofs.lemmas.List.Elements.{All-nil, All-cons, All-append, All-contains, All-head, All-map, All-tail}
use Rattle.std.proofs.lemmas.List.Kept.{AllPairs-cons}
use Rattle.std.proofs.lemmas.List.Sorted.{IsPermutation-keeps, IsPermutation-swap, length_permutation}
use Rattle.proto_laws.proofs.Holders.{cases_in, either, first_in, later_in, none_in}
use Rattle.proto_laws.proofs.Nesting.{all_left, all_right}

-- what holds of all of a mapped list
pub from_map : {X Y : Type 0} (P : Y → Type 0) (f : X → Y) (xs : List X) → All P (map f xs) → All (λ x. P (f x)) xs
from_map P f [] all = All-nil (λ x. P (f x))
from_map P f (x ∷ xs) all = All-cons (λ x. P (f x)) x xs (All-head P (f x) (map f xs) all) (from_map P f xs (All-tail P (f x) (map f xs) all))

module _ {X : Type 0} (R : X → X → Type 0) where
  pub pairs-nil : AllPairs R []
  pairs-nil i j d lt within = absurd (omega (arith, within))

  pub pairs-head : (x : X) (xs : List X) → AllPairs R (x ∷ xs) → All (R x) xs
  pairs-head x xs pairs k d lt = pairs zero (suc k) d (omega arith) (omega arith)

  pub pairs-tail : (x : X) (xs : List X) → AllPairs R (x ∷ xs) → AllPairs R xs
  pairs-tail x xs pairs i j d lt within = pairs (suc i) (suc j) d (omega arith) (omega arith)

  pub pairs-append : (xs ys : List X) → AllPairs R xs → AllPairs R ys → All (λ x. All (R x) ys) xs → AllPairs R (xs ++ ys)
  pairs-append [] ys first second across = second
  pairs-append (x ∷ xs) ys first second across =
      AllPairs-cons R x (xs ++ ys)
      (All-append (R x) xs ys (pairs-head x xs first) (All-head (λ x. All (R x) ys) x xs across))
      (pairs-append xs ys (pairs-tail x xs first) second (All-tail (λ x. All (R x) ys) x xs across))

  pub pairs-left : (xs ys : List X) → AllPairs R (xs ++ ys) → AllPairs R xs
  pairs-left [] ys pairs = pairs-nil
  pairs-left (x ∷ xs) ys pairs =
      AllPairs-cons R x xs (all_left (R x) xs ys (pairs-head x (xs ++ ys) pairs)) (pairs-left xs ys (pairs-tail x (xs ++ ys) pairs))

  pub pairs-right : (xs ys : List X) → AllPairs R (xs ++ ys) → AllPairs R ys
  pairs-right [] ys pairs = pairs
  pairs-right (x ∷ xs) ys pairs = pairs-right xs ys (pairs-tail x (xs ++ ys) pairs)

  pub pairs-across : (xs ys : List X) → AllPairs R (xs ++ ys) → All (λ x. All (R x) ys) xs
  pairs-across [] ys pairs = All-nil (λ x. All (R x) ys)
  pairs-across (x ∷ xs) ys pairs =
      All-cons (λ x. All (R x) ys) x xs (all_right (R x) xs ys (pairs-head x (xs ++ ys) pairs)) (pairs-across xs ys (pairs-tail x (xs ++ ys) pairs))

  -- by what is known of each element
  pub pairs-with : (S : X → X → Type 0) (P : X → Type 0) → ((x y : X) → P x → P y → R x y → S x y) → (xs : List X) → All P xs → AllPairs R xs → AllPairs S xs
  pairs-with S P each xs all pairs i j d lt within = each (get_or xs i d) (get_or xs j d) (all i d (omega arith)) (all j d within) (pairs i j d lt within)

pub pairs-map : {X Y : Type 0} (R : Y → Y → Type 0) (f : X → Y) (xs : List X) → AllPairs (λ x y. R (f x) (f y)) xs → AllPairs R (map f xs)
pairs-map R f [] pairs = pairs-nil R
pairs-map R f (x ∷ xs) pairs =
    AllPairs-cons R (f x) (map f xs) (All-map (R (f x)) f xs (pairs-head (λ x y. R (f x) (f y)) x xs pairs))
    (pairs-map R f xs (pairs-tail (λ x y. R (f x) (f y)) x xs pairs))

pub pairs-from_map : {X Y : Type 0} (R : Y → Y → Type 0) (f : X → Y) (xs : List X) → AllPairs R (map f xs) → AllPairs (λ x y. R (f x) (f y)) xs
pairs-from_map R f [] pairs = pairs-nil (λ x y. R (f x) (f y))
pairs-from_map R f (x ∷ xs) pairs =
    AllPairs-cons (λ x y. R (f x) (f y)) x xs (from_map (R (f x)) f xs (pairs-head R (f x) (map f xs) pairs))
    (pairs-from_map R f xs (pairs-tail R (f x) (map f xs) pairs))

-- ---- where the order doesn't matter

-- where the element comes from that stands at k after a and b changed places
abbrev ComesFrom : ℕ → ℕ → ℕ → ℕ → Type 0
ComesFrom a b k m = ((k ≡ a) × (m ≡ b)) ⊎ (((k ≡ b) × (m ≡ a)) ⊎ ((k ≢ a) × (k ≢ b) × (m ≡ k)))

apart_still : (a b i j m n : ℕ) → i ≢ j → ComesFrom a b i m → ComesFrom a b j n → m ≢ n
apart_still a b i j m n differ (inl p) (inl q) = λ same. differ (omega (arith, p, q))
apart_still a b i j m n differ (inl p) (inr (inl q)) = λ same. differ (omega (arith, p, q))
apart_still a b i j m n differ (inl p) (inr (inr q)) = λ same. q.1 (omega (arith, p, q))
apart_still a b i j m n differ (inr (inl p)) (inl q) = λ same. differ (omega (arith, p, q))
apart_still a b i j m n differ (inr (inl p)) (inr (inl q)) = λ same. differ (omega (arith, p, q))
apart_still a b i j m n differ (inr (inl p)) (inr (inr q)) = λ same. q.0 (omega (arith, p, q))
apart_still a b i j m n differ (inr (inr p)) (inl q) = λ same. p.1 (omega (arith, p, q))
apart_still a b i j m n differ (inr (inr p)) (inr (inl q)) = λ same. p.0 (omega (arith, p, q))
apart_still a b i j m n differ (inr (inr p)) (inr (inr q)) = λ same. differ (omega (arith, p, q))

module _ {X : Type 0} (R : X → X → Type 0) (turned : (x y : X) → R x y → R y x) where
  pub any_two : (xs : List X) → AllPairs R xs → (i j : ℕ) (d : X) → i ≢ j → i < length xs → j < length xs → R (get_or xs i d) (get_or xs j d)
  any_two xs pairs i j d differ within also = by (cases_order i j)
    where
      by : (i ≡ j) ⊎ ((i < j) ⊎ (j < i)) → R (get_or xs i d) (get_or xs j d)
      by (inl same) = absurd (differ same)
      by (inr (inl lt)) = pairs i j d lt also
      by (inr (inr lt)) = turned (get_or xs j d) (get_or xs i d) (pairs j i d lt within)

  -- two elements that differ
  pub both_in : (xs : List X) → AllPairs R xs → (x y : X) → x ≢ y → Contains xs x → Contains xs y → R x y
  both_in xs pairs x y differ first second =
      let other : get_or xs second.0 x ≡ y = get_or_default xs second.0 x y second.1 ∙ second.2 in
      let apart : first.0 ≢ second.0 = λ same. differ (sym first.2 ∙ ap (λ k. get_or xs k x) same ∙ other) in
      subst (λ z. R z y) first.2 (subst (λ z. R (get_or xs first.0 x) z) other (any_two xs pairs first.0 second.0 x apart first.1 second.1))

  swapped : (xs : List X) (a b : ℕ) → a < length xs → b < length xs → AllPairs R xs → AllPairs R (swap xs a b)
  swapped xs a b first second pairs i j d lt within =
      let as_long : length (swap xs a b) ≡ length xs = length_permutation xs (swap xs a b) (IsPermutation-swap xs (swap xs a b) a b first second refl) in
      let p = come i (omega (arith, as_long)) in
      let q = come j (omega (arith, as_long)) in
      let differ : i ≢ j = λ same. absurd (omega arith) in
      subst (λ z. R z (get_or (swap xs a b) j d)) (sym p.2)
      (subst (λ z. R (get_or xs p.0 d) z) (sym q.2)
      (any_two xs pairs p.0 q.0 d (apart_still a b i j p.0 q.0 differ p.3 q.3) p.1 q.1))
    where
      come : (k : ℕ) → k < length xs → (m : ℕ) × (m < length xs) × (get_or (swap xs a b) k d ≡ get_or xs m d) × ComesFrom a b k m
      come k there = by (cases_eq k a) (cases_eq k b)
        where
          by : (k ≡ a) ⊎ (k ≢ a) → (k ≡ b) ⊎ (k ≢ b) → (m : ℕ) × (m < length xs) × (get_or (swap xs a b) k d ≡ get_or xs m d) × ComesFrom a b k m
          by (inl same) other =
              let at = swapped_from_swap xs (swap xs a b) a b d first second refl in
              (b, second, ap (λ n. get_or (swap xs a b) n d) same ∙ at.0, inl (same, refl))
          by (inr differs) (inl same) =
              let at = swapped_from_swap xs (swap xs a b) a b d first second refl in
              (a, first, ap (λ n. get_or (swap xs a b) n d) same ∙ at.1, inr (inl (same, refl)))
          by (inr differs) (inr neither) =
              let at = swapped_from_swap xs (swap xs a b) a b d first second refl in
              (k, there, at.2 k differs neither, inr (inr (differs, neither, refl)))

  pub pairs-permuted : (xs ys : List X) → IsPermutation xs ys → AllPairs R xs → AllPairs R ys
  pairs-permuted xs ys same pairs = IsPermutation-keeps xs (AllPairs R) pairs (λ l i j first second h. swapped l i j first second h) ys same

-- ---- two lists in one order

module _ {X : Type 0} (R : X → X → Type 0) (never : (x y : X) → R x y → R y x → ⊥) where
  -- what stands behind the first is behind in the other list too
  rest_in : (x : X) (xs ys : List X) → AllPairs R (x ∷ xs) → ((z : X) → Contains (x ∷ xs) z → Contains (x ∷ ys) z) → (z : X) → Contains xs z → Contains ys z
  rest_in x xs ys pairs sub z c =
      either (λ same. let before = All-contains (R x) xs z (pairs-head R x xs pairs) c in let again = subst (R x) (sym same) before in absurd (never x x again again)) (λ later. later)
      (cases_in x ys z (sub z (later_in x xs z c)))

  -- the first is the same
  first_same : (x y : X) (xs ys : List X) → AllPairs R (x ∷ xs) → AllPairs R (y ∷ ys) → Contains (y ∷ ys) x → Contains (x ∷ xs) y → x ≡ y
  first_same x y xs ys first second c d = by (cases_in y ys x c) (cases_in x xs y d)
    where
      by : (y ≡ x) ⊎ Contains ys x → (x ≡ y) ⊎ Contains xs y → x ≡ y
      by (inl same) other = sym same
      by (inr behind) (inl same) = same
      by (inr behind) (inr later) =
          let one = All-contains (R y) ys x (pairs-head R y ys second) behind in
          let two = All-contains (R x) xs y (pairs-head R x xs first) later in
          absurd (never x y two one)

  pub one_ordered : (xs ys : List X) → AllPairs R xs → AllPairs R ys → ((z : X) → Contains xs z → Contains ys z) → ((z : X) → Contains ys z → Contains xs z) → xs ≡ ys
  one_ordered [] [] first second sub sup = refl
  one_ordered [] (y ∷ ys) first second sub sup = absurd (none_in y (sup y (first_in y ys)))
  one_ordered (x ∷ xs) [] first second sub sup = absurd (none_in x (sub x (first_in x xs)))
  one_ordered (x ∷ xs) (y ∷ ys) first second sub sup =
      let same = first_same x y xs ys first second (sub x (first_in x xs)) (sup y (first_in y ys)) in
      let turned = subst (λ z. AllPairs R (z ∷ ys)) (sym same) second in
      let down = rest_in x xs ys first (λ z c. subst (λ y. Contains (y ∷ ys) z) (sym same) (sub z c)) in
      let up = rest_in x ys xs turned (λ z c. sup z (subst (λ y. Contains (y ∷ ys) z) same c)) in
      let rest = one_ordered xs ys (pairs-tail R x xs first) (pairs-tail R y ys second) down up in
      λ i. same i ∷ rest i
