-- The sizes of shares, which differ by at most one.
use Rattle.std.proofs.Common.{◌≡◌, ℕ, zero, suc, ◌+◌, ◌-◌, ◌*◌, ◌<◌, ◌≤◌, List, [], ◌∷◌, ◌++◌, arith, All, slice_index_or, min, ◌/◌, ◌%◌, sym, subst}
use Rattle.std.proofs.Math.Nat.{mul-le-mul_right, lt_of_mul-lt-mul_right}
use mathlib.Core.Logic.{⊎_elim}
use Rattle.std.proofs.lemmas.Bool.{cases_lt}
use Rattle.std.proofs.lemmas.Grind.{div_ceil_times}
use Rattle.std.proofs.lemmas.List.Elements.{All-nil, All-append, All-head, All-tail}
use Rattle.work_shares.specs.Shares.{AreBalanced}

-- each size is the share of what is left, rounded up or one more: k shares are left for len pieces
abbrev pub Bounded : ℕ → ℕ → List ℕ → Type 0
Bounded len k sizes = All (λ a. (len ≤ a * k) × (a * k ≤ len + k)) sizes

all_one : {X : Type 0} (P : X → Type 0) (x : X) → P x → All P (x ∷ [])
all_one P x p zero d low = p
all_one P x p (suc k) d low = absurd (omega (arith, low))

balanced_snoc : (xs : List ℕ) (b : ℕ) → AreBalanced xs → All (λ a. (b ≤ a) × (a ≤ b + 1)) xs → AreBalanced (xs ++ b ∷ [])
balanced_snoc [] b h near = (All-nil _, tt)
balanced_snoc (a ∷ rest) b h near = (
  All-append (λ c. (c ≤ a) × (a ≤ c + 1)) rest (b ∷ []) h.0 (all_one (λ c. (c ≤ a) × (a ≤ c + 1)) b (All-head (λ c. (b ≤ c) × (c ≤ b + 1)) a rest near)),
  balanced_snoc rest b h.1 (All-tail (λ c. (b ≤ c) × (c ≤ b + 1)) a rest near),
)

near_one : (a here len k : ℕ) → len ≤ a * k → a * k ≤ len + k → len ≤ here * k → here * k < len + k → (here ≤ a) × (a ≤ here + 1)
near_one a here len k low high l h =
    let above : (a + 1) * k ≡ a * k + k = omega arith in
    let over : (here + 1 + 1) * k ≡ here * k + k + k = omega arith in
    let x : here < a + 1 = lt_of_mul-lt-mul_right k (omega (arith, above, low, h)) in
    let y : a < here + 1 + 1 = lt_of_mul-lt-mul_right k (omega (arith, over, high, l, h)) in
    (omega (arith, x), omega (arith, y))

-- what a size is to the rest once one more share is cut
bound_one : (a here len k : ℕ) → (here ≤ a) × (a ≤ here + 1) → a * suc k ≤ len + suc k → len ≤ here * suc k → here * suc k < len + suc k
    → (len - here ≤ a * k) × (a * k ≤ (len - here) + k)
bound_one a here len k near high l h =
    let e : a * suc k ≡ a * k + a = omega arith in
    let f : here * suc k ≡ here * k + here = omega arith in
    let m : here * k ≤ a * k = mul-le-mul_right k near.0 in
    let above : a * k ≤ (len - here) + k =
    ⊎_elim (λ more. omega (arith, e, f, l, h, high, more)) (λ same. let n : a * k ≤ here * k = mul-le-mul_right k same in omega (arith, f, h, n)) (cases_lt here a) in
    (omega (arith, f, m, l), above)

-- one more share is cut
pub cut_more : (xs : List ℕ) (here len k : ℕ) → len ≤ here * suc k → here * suc k < len + suc k → AreBalanced xs → Bounded len (suc k) xs
    → AreBalanced (xs ++ here ∷ []) × Bounded (len - here) k (xs ++ here ∷ [])
cut_more xs here len k l h balanced bounded =
    let near : All (λ a. (here ≤ a) × (a ≤ here + 1)) xs = λ i d low. near_one (slice_index_or xs i d) here len (suc k) (bounded i d low).0 (bounded i d low).1 l h in (
      balanced_snoc xs here balanced near,
      All-append (λ a. (len - here ≤ a * k) × (a * k ≤ (len - here) + k)) xs (here ∷ [])
          (λ i d low. bound_one (slice_index_or xs i d) here len k (near i d low) (bounded i d low).1 l h)
          (all_one (λ a. (len - here ≤ a * k) × (a * k ≤ (len - here) + k)) here (bound_one here here len k (omega arith, omega arith) (omega (arith, h)) l h)),
    )

-- the same at the code's own names
pub cut_next : (xs ys : List ℕ) (here len next left less : ℕ) → left ≡ suc less → here ≡ len / left + min 1 (len % left) → next ≡ len - here → ys ≡ xs ++ here ∷ []
    → AreBalanced xs → Bounded len left xs → AreBalanced ys × Bounded next less ys
cut_next xs ys here len next left less l h n y balanced bounded =
    let t = div_ceil_times len left (omega (arith, l)) in
    let P : ℕ → Type 0 = λ x. (len ≤ x * left) × (x * left < len + left) in
    let Q : ℕ → Type 0 = λ x. (len ≤ here * x) × (here * x < len + x) × Bounded len x xs in
    let u : P here = subst P (sym h) t in
    let v : Q (suc less) = subst Q l (u.0, u.1, bounded) in
    let w = cut_more xs here len less v.0 v.1 balanced v.2 in
    let S : List ℕ → Type 0 = λ zs. AreBalanced zs × Bounded (len - here) less zs in
    let s : S ys = subst S (sym y) w in
    (s.0, subst (λ x. Bounded x less ys) (sym n) s.1)
