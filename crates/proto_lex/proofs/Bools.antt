-- Tests joined by `&&` and `||`, and what they answer under a condition.
use Rattle.std.proofs.Common.{◌≡◌, ℕ, ◌⊎◌, inl, inr, Bool, true, false, refl, arith, Some}
use Rattle.std.specs.Prelude.{not, ◌==◌, ◌&&◌, ◌||◌, ◌≢◌, nat_lt, nat_le}
use Rattle.std.specs.Bool.{then_some}
use Rattle.std.proofs.lemmas.Bool.Decides.{nat_tests}

pub and_left : (a b : Bool) → (a && b) ≡ true → a ≡ true
and_left true b both = refl
and_left false b both = both

pub and_right : (a b : Bool) → (a && b) ≡ true → b ≡ true
and_right true b both = both
and_right false b both = cc (both)

pub and_both : (a b : Bool) → a ≡ true → b ≡ true → (a && b) ≡ true
and_both true b left right = right
and_both false b left right = left

pub or_either : (a b : Bool) → (a || b) ≡ true → (a ≡ true) ⊎ (b ≡ true)
or_either true b either = inl refl
or_either false b either = inr either

pub or_left : (a b : Bool) → a ≡ true → (a || b) ≡ true
or_left true b left = refl
or_left false b left = cc (left)

pub or_right : (a b : Bool) → b ≡ true → (a || b) ≡ true
or_right true b right = refl
or_right false b right = right

-- numbers
pub eq_of : (x y : ℕ) → (x == y) ≡ true → x ≡ y
eq_of x y test = grind (arith, nat_tests)

pub eq_test : (x y : ℕ) → x ≡ y → (x == y) ≡ true
eq_test x y same = grind (arith, nat_tests)

pub ne_of : (x y : ℕ) → not (x == y) ≡ true → x ≢ y
ne_of x y test = grind (arith, nat_tests)

pub ne_test : (x y : ℕ) → x ≢ y → not (x == y) ≡ true
ne_test x y differs = grind (arith, nat_tests)

pub past_test : (b : ℕ) → nat_lt b 128 ≡ false → nat_le 128 b ≡ true
past_test b test = grind (arith, nat_tests)

pub past_of : (b : ℕ) → nat_le 128 b ≡ true → nat_lt b 128 ≡ false
past_of b test = grind (arith, nat_tests)

-- an answer under a condition
pub then_some_is : {A : Type 0} (t : Bool) (x y : A) → then_some t x ≡ Some y → (t ≡ true) × (x ≡ y)
then_some_is true x y is = (refl, cc)
then_some_is false x y is = cc (is)

pub then_some_test : {A : Type 0} (t : Bool) (x y : A) → t ≡ true → x ≡ y → then_some t x ≡ Some y
then_some_test true x y test is = cc
then_some_test false x y test is = cc (test)
