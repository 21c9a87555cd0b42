-- Lists that say the same at their fronts or at their backs.
use Rattle.std.proofs.Common.{◌≡◌, ◌∙◌, sym, ap, ap₂, refl, ℕ, zero, suc, ◌+◌, ◌-◌, ◌<◌, ◌≤◌, List, [], ◌∷◌, length, take, drop, get_or, map, arith}
use Rattle.std.proofs.lemmas.List.{get_or-drop, length-drop, take_all}

pub same_at_front : {X Y : Type 0} (f : X → Y) (n : ℕ) (a b : List X) → n ≤ length a → n ≤ length b
    → ((k : ℕ) (d : X) → k < n → f (get_or a k d) ≡ f (get_or b k d)) → map f (take n a) ≡ map f (take n b)
same_at_front f zero a b le le' each = refl
same_at_front f (suc n) [] b le le' each = absurd (omega (arith, le))
same_at_front f (suc n) (x ∷ a) [] le le' each = absurd (omega (arith, le'))
same_at_front f (suc n) (x ∷ a) (y ∷ b) le le' each =
    ap₂ (λ z zs. z ∷ zs) (each 0 x (omega arith)) (same_at_front f n a b (omega (arith, le)) (omega (arith, le')) (λ k d lt. each (suc k) d (omega (arith, lt))))

-- of the last ones, one by its place from the end
last_one : {X : Type 0} (n : ℕ) (a : List X) (k : ℕ) (d : X) → n ≤ length a → k < n → get_or (drop (length a - n) a) k d ≡ get_or a (length a - 1 - (n - 1 - k)) d
last_one n a k d le lt = let place : length a - n + k ≡ length a - 1 - (n - 1 - k) = omega arith in get_or-drop (length a - n) a k d ∙ ap (λ i. get_or a i d) place

last_ones : {X : Type 0} (n : ℕ) (a : List X) → n ≤ length a → (length (drop (length a - n) a) ≡ n) × (take n (drop (length a - n) a) ≡ drop (length a - n) a)
last_ones n a le = let long : length (drop (length a - n) a) ≡ n = omega (arith, length-drop (length a - n) a) in (long, take_all n (drop (length a - n) a) (omega (arith, long)))

pub same_at_back : {X Y : Type 0} (f : X → Y) (n : ℕ) (a b : List X) → n ≤ length a → n ≤ length b
    → ((k : ℕ) (d : X) → k < n → f (get_or a (length a - 1 - k) d) ≡ f (get_or b (length b - 1 - k) d)) → map f (drop (length a - n) a) ≡ map f (drop (length b - n) b)
same_at_back f n a b le le' each =
    let ends = last_ones n a le in
    let ends' = last_ones n b le' in
    ap (map f) (sym ends.1)
    ∙ same_at_front f n (drop (length a - n) a) (drop (length b - n) b) (omega (arith, ends.0)) (omega (arith, ends'.0))
    (λ k d lt. ap f (last_one n a k d le lt) ∙ each (n - 1 - k) d (omega (arith, lt)) ∙ sym (ap f (last_one n b k d le' lt)))
    ∙ ap (map f) ends'.1
