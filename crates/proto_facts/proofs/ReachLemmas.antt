-- Intervals sorted by their lower bounds, asked by a number.
use Rattle.std.proofs.Common.{◌≡◌, map, sym, drop, get_or, max, add-one, subst, tests, Option, Some, None, Bool, true, false, ◌&&◌, ◌||◌, ℕ, zero, suc, ◌+◌, ◌<◌, ◌≤◌, List, [], ◌∷◌, length, take, refl, ap, ◌∙◌, arith}
use Rattle.std.specs.Prelude.{nat_le}
use Rattle.std.specs.List.{list_any, AllWithin, AllByRecursion, IsDistinct}
use Rattle.std.specs.List.Sorted.{IsPermutation}
use Rattle.std.proofs.lemmas.List.Sorted.{IsPermutation-sym}
use Rattle.std.proofs.lemmas.Map.Keys.{IsDistinct-head, IsDistinct-tail, IsDistinct-IsPermutation}
use Rattle.std.proofs.Math.Seq.{drop-cons}
use Rattle.proto_facts.specs.Reach.{between, holds, reach_of, is_held, Rise, AreApart}
use Rattle.proto_decls.specs.Checks.{lies_in, overlap}
use Rattle.proto_decls.specs.declared.part.Interval.{Interval}
use Rattle.proto_facts.specs.declared.reach.Reach.{Reach}

tail : (P : Reach → Type 0) (x : Reach) (xs : List Reach) (low high : ℕ) → AllWithin P (x ∷ xs) (suc low) (suc high) → AllWithin P xs low high
tail P x xs low high h k d a b = h (suc k) d (omega arith) (omega arith)

none : (xs : List Reach) (high low : ℕ) → AllWithin (λ y. nat_le y.low high ≡ false) xs 0 (length xs) → list_any (between high low) xs ≡ false
none [] high low h = refl
none (x ∷ xs) high low h = ap (λ b. (b && nat_le low x.high) || list_any (between high low) xs) (h 0 x (omega arith) (omega arith)) ∙ none xs high low (λ k d a b. h (suc k) d (omega arith) (omega arith))

pub any-split : (xs : List Reach) (k high low : ℕ) → AllWithin (λ y. nat_le y.low high ≡ true) xs 0 k → AllWithin (λ y. nat_le y.low high ≡ false) xs k (length xs) → k ≤ length xs
    → list_any (between high low) xs ≡ list_any (λ r. nat_le low r.high) (take k xs)
any-split [] zero high low front back le = refl
any-split [] (suc k) high low front back le = refl
any-split (x ∷ xs) zero high low front back le = none (x ∷ xs) high low back
any-split (x ∷ xs) (suc k) high low front back le =
    ap (λ b. (b && nat_le low x.high) || list_any (between high low) xs) (front 0 x (omega arith) (omega arith))
    ∙ ap (λ b. nat_le low x.high || b) (any-split xs k high low (λ i d a b. front (suc i) d (omega arith) (omega arith)) (tail (λ y. nat_le y.low high ≡ false) x xs k (length xs) back) (omega arith))

pub any-map : (v : ℕ) (xs : List Interval) → list_any (holds v) (map reach_of xs) ≡ list_any (lies_in (Some v)) xs
any-map v [] = refl
any-map v (x ∷ xs) = ap (λ b. lies_in (Some v) x || b) (any-map v xs)

nothing : (xs : List Interval) → list_any (lies_in None) xs ≡ false
nothing [] = refl
nothing (x ∷ xs) = nothing xs

pub held-is : (o : Option ℕ) (sorted : List Reach) (good : List Interval) → ((n : ℕ) → list_any (holds n) sorted ≡ list_any (lies_in (Some n)) good) → is_held o sorted ≡ list_any (lies_in o) good
held-is None sorted good same = sym (nothing good)
held-is (Some v) sorted good same = same v

both-turned : (a b : Bool) → (a && b) ≡ (b && a)
both-turned true true = refl
both-turned true false = refl
both-turned false true = refl
both-turned false false = refl

pub any-met : (r : Interval) (xs : List Interval) → list_any (between r.high r.low) (map reach_of xs) ≡ list_any (overlap r) xs
any-met r [] = refl
any-met r (x ∷ xs) =
    ap (λ b. b || list_any (between r.high r.low) (map reach_of xs)) (both-turned (nat_le x.low r.high) (nat_le r.low x.high))
    ∙ ap (λ b. overlap r x || b) (any-met r xs)

-- ---- intervals that share no number

abbrev meet : Reach → Reach → Bool
meet a b = nat_le a.low b.high && nat_le b.low a.high

above : (end : ℕ) (rs : List Reach) → Rise end rs → AllByRecursion (λ r. end ≤ r.low) rs
above end [] up = tt
above end (r ∷ rs) up = (up.0, weaker rs (above (max end (r.high + 1)) rs up.1))
  where
    weaker : (xs : List Reach) → AllByRecursion (λ y. max end (r.high + 1) ≤ y.low) xs → AllByRecursion (λ y. end ≤ y.low) xs
    weaker [] all = tt
    weaker (x ∷ xs) all = (omega (arith, all.0), weaker xs all.1)

behind : (r : Reach) (end : ℕ) (xs : List Reach) → r.high < end → AllByRecursion (λ y. end ≤ y.low) xs → AllByRecursion (λ y. meet r y ≡ false) xs
behind r end [] lt all = tt
behind r end (x ∷ xs) lt all = (later x all.0, behind r end xs lt all.1)
  where
    later : (y : Reach) → end ≤ y.low → meet r y ≡ false
    later y le = grind (arith, tests)

rise-apart : (end : ℕ) (rs : List Reach) → Rise end rs → IsDistinct meet rs
unfolding IsDistinct
rise-apart end [] up = tt
rise-apart end (r ∷ rs) up = (behind r (max end (r.high + 1)) rs (omega arith) (above (max end (r.high + 1)) rs up.1), rise-apart (max end (r.high + 1)) rs up.1)

unmapped : (good : List Interval) → IsDistinct meet (map reach_of good) → AreApart good
unfolding IsDistinct
unmapped [] apart = tt
unmapped (x ∷ xs) apart = (each xs apart.0, unmapped xs apart.1)
  where
    each : (ys : List Interval) → AllByRecursion (λ y. meet (reach_of x) y ≡ false) (map reach_of ys) → AllByRecursion (λ y. overlap x y ≡ false) ys
    each [] all = tt
    each (y ∷ ys) all = (all.0, each ys all.1)

-- sorted in some way, each begins behind those before it
pub apart-from-rise : (good : List Interval) (rs : List Reach) → IsPermutation (map reach_of good) rs → Rise 0 rs → AreApart good
apart-from-rise good rs same up =
    unmapped good
    (IsDistinct-IsPermutation meet (λ a b. both-turned (nat_le a.low b.high) (nat_le b.low a.high)) rs (map reach_of good) (IsPermutation-sym (map reach_of good) rs same) (rise-apart 0 rs up))

-- one more that begins behind the others
pub rise-next : (rs : List Reach) (i : ℕ) (d : Reach) (end : ℕ) → i < length rs → end ≤ (get_or rs i d).low → Rise (max end ((get_or rs i d).high + 1)) (drop (i + 1) rs) → Rise end (drop i rs)
rise-next rs i d end lt le up =
    let split : drop i rs ≡ get_or rs i d ∷ drop (i + 1) rs = rw add-one (drop-cons rs i d lt) in
    subst (Rise end) (sym split) (le, up)

-- where no two share a number, none before it does
pub none-overlap : (good : List Interval) (k : ℕ) (d : Interval) → k < length good → AreApart good → list_any (overlap (get_or good k d)) (take k good) ≡ false
none-overlap [] k d lt apart = absurd (omega arith)
none-overlap (x ∷ xs) zero d lt apart = refl
none-overlap (x ∷ xs) (suc k) d lt apart =
    let here = get_or xs k d in
    ap (λ b. b || list_any (overlap here) (take k xs)) (both-turned (nat_le here.low x.high) (nat_le x.low here.high) ∙ placed xs k (omega arith) (IsDistinct-head overlap x xs apart))
    ∙ none-overlap xs k d (omega arith) (IsDistinct-tail overlap x xs apart)
  where
    placed : (ys : List Interval) (j : ℕ) → j < length ys → AllByRecursion (λ y. overlap x y ≡ false) ys → overlap x (get_or ys j d) ≡ false
    placed [] j lt' all = absurd (omega arith)
    placed (y ∷ ys) zero lt' all = all.0
    placed (y ∷ ys) (suc j) lt' all = placed ys j (omega arith) all.1
