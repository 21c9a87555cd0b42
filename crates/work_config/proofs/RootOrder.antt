-- A list that was sorted stably by a key below n is, for each key from 0 on, what the list before has of that key.
use Rattle.std.proofs.Common.{◌≡◌, ℕ, ◌+◌, ◌<◌, ◌≤◌, suc, zero, List, [], ◌∷◌, ◌++◌, map, Bool, true, false, not, ◌&&◌, ◌==◌, cond, filter, refl, sym, ap, ◌∙◌, arith}
use Rattle.std.proofs.Common.{◌⊎◌, inl, inr}
use Rattle.std.specs.List.{All, flat_map, range_with_len}
use Rattle.std.specs.List.Sorted.{IsNonDecreasingBy, IsPermutation, IsStableByKey, ties}
use Rattle.std.specs.Ordering.{nat_cmp, is_lt}
use Rattle.std.proofs.lemmas.Bool.{eqb-true, eqb-false}
use Rattle.std.proofs.lemmas.List.Elements.{All-head, All-tail, All-weaker, filter_agree}
use Rattle.std.proofs.lemmas.List.{map-append}
use Rattle.std.proofs.lemmas.List.Sorted.{All-permutation}

tie : (x y : ℕ) → not (is_lt (nat_cmp x y)) && not (is_lt (nat_cmp y x)) ≡ (y == x)
tie x y = grind arith

not_equal : (a b : ℕ) → (a ≡ b → ⊥) → (a == b) ≡ false
not_equal a b other = by (a == b) refl
  where
    by : (e : Bool) → (a == b) ≡ e → e ≡ false
    by true is = absurd (other (eqb-true a b is))
    by false is = refl

module _ {X : Type 0} (key : X → ℕ) where
  -- those with a key
  abbrev pub having : ℕ → List X → List X
  having k xs = filter (λ x. key x == k) xs

  -- those with each of so many keys from one on
  abbrev pub key_after_key : ℕ → ℕ → List X → List X
  key_after_key a n xs = flat_map (λ k. having k xs) (range_with_len a n)

  -- ---- in order

  none_below : (k : ℕ) (xs : List X) → All (λ x. k < key x) xs → having k xs ≡ []
  none_below k [] above = refl
  none_below k (x ∷ xs) above =
      ap (λ b. cond b (x ∷ having k xs) (having k xs)) (not_equal (key x) k (λ e. omega (arith, e, All-head (λ x. k < key x) x xs above))) ∙ none_below k xs (All-tail (λ x. k < key x) x xs above)

  -- a key that is lower than all those asked for
  below_all : (a n : ℕ) (x : X) (xs : List X) → key x < a → key_after_key a n (x ∷ xs) ≡ key_after_key a n xs
  below_all a zero x xs less = refl
  below_all a (suc n) x xs less =
      ap (λ b. cond b (x ∷ having a xs) (having a xs) ++ key_after_key (a + 1) n (x ∷ xs)) (not_equal (key x) a (λ e. omega (arith, e, less)))
      ∙ ap (λ l. having a xs ++ l) (below_all (a + 1) n x xs (omega (arith, less)))

  -- the first has the lowest key
  first_comes : (a n : ℕ) (x : X) (xs : List X) → a ≤ key x → key x < a + n → All (λ y. key x ≤ key y) xs → key_after_key a n (x ∷ xs) ≡ x ∷ key_after_key a n xs
  first_comes a zero x xs low high above = absurd (omega (arith, low, high))
  first_comes a (suc n) x xs low high above = by (key x == a) refl (λ less. first_comes (a + 1) n x xs (omega (arith, less)) (omega (arith, high)) above)
    where
      by : (e : Bool) → (key x == a) ≡ e → (a < key x → key_after_key (a + 1) n (x ∷ xs) ≡ x ∷ key_after_key (a + 1) n xs)
          → cond e (x ∷ having a xs) (having a xs) ++ key_after_key (a + 1) n (x ∷ xs) ≡ x ∷ (having a xs ++ key_after_key (a + 1) n xs)
      by true is rest = ap (λ l. x ∷ (having a xs ++ l)) (below_all (a + 1) n x xs (omega (arith, eqb-true (key x) a is)))
      by false is rest =
          let less : a < key x = omega (arith, low, eqb-false (key x) a is) in
          let none : having a xs ≡ [] = none_below a xs (All-weaker (λ y. key x ≤ key y) (λ y. a < key y) (λ y le. omega (arith, less, le)) xs above) in
          ap (λ l. l ++ key_after_key (a + 1) n (x ∷ xs)) none ∙ rest less ∙ sym (ap (λ l. x ∷ (l ++ key_after_key (a + 1) n xs)) none)

  first_is_lowest : (x : X) (xs : List X) → IsNonDecreasingBy key (x ∷ xs) → All (λ y. key x ≤ key y) xs
  first_is_lowest x xs rise = λ k d less. rise 0 (suc k) d (omega arith) (omega (arith, less))

  rest_rises : (x : X) (xs : List X) → IsNonDecreasingBy key (x ∷ xs) → IsNonDecreasingBy key xs
  rest_rises x xs rise = λ i j d le less. rise (suc i) (suc j) d (omega (arith, le)) (omega (arith, less))

  none_at_all : (a n : ℕ) → key_after_key a n [] ≡ []
  none_at_all a zero = refl
  none_at_all a (suc n) = none_at_all (a + 1) n

  pub in_key_order : (n : ℕ) (xs : List X) → IsNonDecreasingBy key xs → All (λ x. key x < n) xs → xs ≡ key_after_key 0 n xs
  in_key_order n [] rise low = sym (none_at_all 0 n)
  in_key_order n (x ∷ xs) rise low =
      ap (λ l. x ∷ l) (in_key_order n xs (rest_rises x xs rise) (All-tail (λ x. key x < n) x xs low))
      ∙ sym (first_comes 0 n x xs (omega arith) (omega (arith, All-head (λ x. key x < n) x xs low)) (first_is_lowest x xs rise))

  -- ---- stably

  one_or_none : (k : ℕ) (xs : List X) → ((x : X) × (key x ≡ k)) ⊎ (having k xs ≡ [])
  one_or_none k [] = inr refl
  one_or_none k (x ∷ xs) = by (key x == k) refl (one_or_none k xs)
    where
      by : (e : Bool) → (key x == k) ≡ e → ((x : X) × (key x ≡ k)) ⊎ (having k xs ≡ []) → ((x : X) × (key x ≡ k)) ⊎ (cond e (x ∷ having k xs) (having k xs) ≡ [])
      by true is rest = inl (x, eqb-true (key x) k is)
      by false is rest = rest

  module _ (xs ys : List X) (stable : IsStableByKey key nat_cmp xs ys) where
    same_where : (k : ℕ) (x : X) → key x ≡ k → having k ys ≡ having k xs
    same_where k x is =
        let agrees : (y : X) → ties (λ x y. is_lt (nat_cmp (key x) (key y))) x y ≡ (key y == k) = λ y. tie (key x) (key y) ∙ ap (λ n. key y == n) is in
        sym (filter_agree _ _ agrees ys) ∙ stable x ∙ filter_agree _ _ agrees xs

    pub same_having : (k : ℕ) → having k ys ≡ having k xs
    same_having k = by (one_or_none k xs) (one_or_none k ys)
      where
        by : ((x : X) × (key x ≡ k)) ⊎ (having k xs ≡ []) → ((x : X) × (key x ≡ k)) ⊎ (having k ys ≡ []) → having k ys ≡ having k xs
        by (inl x) o = same_where k x.0 x.1
        by (inr none) (inl y) = same_where k y.0 y.1
        by (inr none) (inr either) = either ∙ sym none

    same_after : (a n : ℕ) → key_after_key a n ys ≡ key_after_key a n xs
    same_after a zero = refl
    same_after a (suc n) = rw (same_having a, same_after (a + 1) n) refl

    pub sorted_stably : (n : ℕ) → IsPermutation xs ys → IsNonDecreasingBy key ys → All (λ x. key x < n) xs → ys ≡ key_after_key 0 n xs
    sorted_stably n same rise low = in_key_order n ys rise (All-permutation (λ x. key x < n) xs ys same low) ∙ same_after 0 n

-- the same of what is seen of the elements
module _ {X Y : Type 0} (seen : X → Y) (key : Y → ℕ) where
  having-map : (k : ℕ) (xs : List X) → map seen (having (λ x. key (seen x)) k xs) ≡ having key k (map seen xs)
  having-map k [] = refl
  having-map k (x ∷ xs) = by (key (seen x) == k) (having-map k xs)
    where
      by : (e : Bool) → map seen (having (λ x. key (seen x)) k xs) ≡ having key k (map seen xs)
          → map seen (cond e (x ∷ having (λ x. key (seen x)) k xs) (having (λ x. key (seen x)) k xs)) ≡ cond e (seen x ∷ having key k (map seen xs)) (having key k (map seen xs))
      by true rest = ap (λ l. seen x ∷ l) rest
      by false rest = rest

  pub keys_seen : (a n : ℕ) (xs : List X) → map seen (key_after_key (λ x. key (seen x)) a n xs) ≡ key_after_key key a n (map seen xs)
  keys_seen a zero xs = refl
  keys_seen a (suc n) xs = map-append seen (having (λ x. key (seen x)) a xs) (key_after_key (λ x. key (seen x)) (a + 1) n xs) ∙ rw (having-map a xs, keys_seen (a + 1) n xs) refl
