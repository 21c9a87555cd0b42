-- Lists whose elements start at ascending offsets.
use Rattle.std.proofs.Common.{◌≡◌, ℕ, zero, suc, ◌+◌, ◌<◌, ◌≤◌, List, [], ◌∷◌, ◌++◌, map, arith}
use Rattle.std.specs.List.Sorted.{IsStrictlyIncreasing}

-- they start one behind the other, from an offset on
abbrev pub Rise : {X : Type 0} → (X → ℕ) → ℕ → List X → Type 0
Rise start at [] = Unit {0}
Rise start at (x ∷ more) = (at ≤ start x) × Rise start (start x + 1) more

module _ {X : Type 0} (start : X → ℕ) where
  pub rise-sooner : (at later : ℕ) (xs : List X) → at ≤ later → Rise start later xs → Rise start at xs
  rise-sooner at later [] le h = tt
  rise-sooner at later (x ∷ more) le h = (omega (arith, le, h.0), h.1)

  pub rise-behind : (at : ℕ) (front behind : List X) → Rise start at (front ++ behind) → Rise start at behind
  rise-behind at [] behind h = h
  rise-behind at (x ∷ front) behind h = rise-sooner at (start x + 1) behind (omega (arith, h.0)) (rise-behind (start x + 1) front behind h.1)

  -- the same as that each start is below the next
  pub increasing-from_rise : (at : ℕ) (xs : List X) → Rise start at xs → IsStrictlyIncreasing (map start xs)
  increasing-from_rise at [] h k lt = absurd (omega (arith, lt))
  increasing-from_rise at (x ∷ []) h k lt = absurd (omega (arith, lt))
  increasing-from_rise at (x ∷ y ∷ more) h zero lt = omega (arith, h.1.0)
  increasing-from_rise at (x ∷ y ∷ more) h (suc k) lt =
      let next : suc k + 1 ≡ suc (k + 1) = omega arith in
      rw next (increasing-from_rise (start x + 1) (y ∷ more) h.1 k (omega (arith, lt)))

  rise-behind_first : (x : X) (xs : List X) → IsStrictlyIncreasing (map start (x ∷ xs)) → Rise start (start x + 1) xs
  rise-behind_first x [] up = tt
  rise-behind_first x (y ∷ more) up =
      let first : start x < start y = up 0 (omega arith) in
      (omega (arith, first), rise-behind_first y more (λ k lt. let next : suc k + 1 ≡ suc (k + 1) = omega arith in rw next at (up (suc k) (omega (arith, lt)))))

  pub rise-from_increasing : (xs : List X) → IsStrictlyIncreasing (map start xs) → Rise start 0 xs
  rise-from_increasing [] up = tt
  rise-from_increasing (x ∷ more) up = (omega arith, rise-behind_first x more up)
