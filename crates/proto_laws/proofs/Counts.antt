-- The numbers of fields and enum values as integers, and as the counts by which the checks know them.
use Rattle.std.proofs.Common.{◌≡◌, ◌⊎◌, inl, inr, ℕ, ◌+◌, ◌-◌, ◌<◌, ◌≤◌, ℤ, pos, negsuc, neg_ℤ, ◌-ℤ◌, ◌≤ℤ◌, ◌<ℤ◌, Bool, true, false, cond, Option, Some, None, refl, arith, ◌&&◌}
use Rattle.std.specs.Prelude.{nat_le}
use Rattle.std.proofs.lemmas.Bool.Decides.{leb_tells}
use Rattle.std.proofs.lemmas.Int.{ints}
use Rattle.proto_decls.specs.declared.part.Numbering.{Numbering}
use Rattle.proto_decls.specs.declared.part.Numbering.TheVariants.{Fields, Values}
use Rattle.proto_decls.specs.Numbers.{counted}
use Rattle.proto_laws.specs.Bodies.{IsInRange, signed}

-- the number that a count stands for: that of an enum value counts from the least
abbrev pub number_of : Numbering → ℕ → ℤ
number_of Fields k = pos k
number_of Values k = pos k -ℤ pos 2147483648

-- what a number counts as: in range by its count, else nothing
abbrev pub IsCounted : Numbering → ℤ → Option ℕ → Type 0
IsCounted numbering z o = ((k : ℕ) × (o ≡ Some k) × IsInRange numbering z × (z ≡ number_of numbering k)) ⊎ ((o ≡ None) × ¬ IsInRange numbering z)

minus_below : (v : ℕ) → pos 1 ≤ℤ neg_ℤ (pos v) → ⊥
minus_below v h = omega (arith, ints)

in_fields : (v : ℕ) (a b : Bool) → (a ≡ true) × (1 ≤ v) ⊎ (a ≡ false) × (v < 1) → (b ≡ true) × (v ≤ 536870911) ⊎ (b ≡ false) × (536870911 < v) → IsCounted Fields (pos v) (cond (a && b) (Some v) None)
in_fields v a b (inl p) (inl q) = inl (v, rw (p.0, q.0) refl, (let h = p.1 in omega (arith, ints), let h = q.1 in omega (arith, ints)), refl)
in_fields v a b (inl p) (inr q) = inr (rw (p.0, q.0) refl, λ h. let l = q.1 in let u = h.1 in omega (arith, ints))
in_fields v a b (inr p) other = inr (rw p.0 refl, λ h. let l = p.1 in let u = h.0 in omega (arith, ints))

plus_values : (v : ℕ) (a : Bool) → (a ≡ true) × (v ≤ 2147483647) ⊎ (a ≡ false) × (2147483647 < v) → IsCounted Values (pos v) (cond a (Some (2147483648 + v)) None)
plus_values v a (inl p) = inl (2147483648 + v, rw p.0 refl, (omega (arith, ints), let h = p.1 in omega (arith, ints)), omega (arith, ints))
plus_values v a (inr p) = inr (rw p.0 refl, λ h. let l = p.1 in let u = h.1 in omega (arith, ints))

minus_values : (v : ℕ) (a : Bool) → (a ≡ true) × (v ≤ 2147483648) ⊎ (a ≡ false) × (2147483648 < v) → IsCounted Values (neg_ℤ (pos v)) (cond a (Some (2147483648 - v)) None)
minus_values v a (inl p) = let h = p.1 in inl (2147483648 - v, rw p.0 refl, (omega (arith, ints), omega (arith, ints)), omega (arith, ints))
minus_values v a (inr p) = inr (rw p.0 refl, λ h. let l = p.1 in let u = h.0 in omega (arith, ints))

pub counts : (numbering : Numbering) (is_negative : Bool) (v : ℕ) → IsCounted numbering (signed is_negative v) (counted numbering is_negative v)
counts Fields true v = inr (refl, λ h. minus_below v h.0)
counts Fields false v = in_fields v (nat_le 1 v) (nat_le v 536870911) (leb_tells 1 v) (leb_tells v 536870911)
counts Values true v = minus_values v (nat_le v 2147483648) (leb_tells v 2147483648)
counts Values false v = plus_values v (nat_le v 2147483647) (leb_tells v 2147483647)

pub number_of-order : (numbering : Numbering) (a b : ℕ) → number_of numbering a ≤ℤ number_of numbering b → a ≤ b
number_of-order Fields a b h = omega (arith, ints)
number_of-order Values a b h = omega (arith, ints)

pub order-number_of : (numbering : Numbering) (a b : ℕ) → a ≤ b → number_of numbering a ≤ℤ number_of numbering b
order-number_of Fields a b h = omega (arith, ints)
order-number_of Values a b h = omega (arith, ints)

pub number_of-same : (numbering : Numbering) (a b : ℕ) → number_of numbering a ≡ number_of numbering b → a ≡ b
number_of-same Fields a b h = omega (arith, ints)
number_of-same Values a b h = omega (arith, ints)

pub number_of-below : (numbering : Numbering) (a b : ℕ) → a < b → number_of numbering a <ℤ number_of numbering b
number_of-below Fields a b h = omega (arith, ints)
number_of-below Values a b h = omega (arith, ints)

pub below-number_of : (numbering : Numbering) (a b : ℕ) → number_of numbering a <ℤ number_of numbering b → a < b
below-number_of Fields a b h = omega (arith, ints)
below-number_of Values a b h = omega (arith, ints)

pub through : (x y z : ℤ) → x ≤ℤ y → y ≤ℤ z → x ≤ℤ z
through x y z a b = omega (arith, ints)

-- each number in range has a count
pub number_in_range : (numbering : Numbering) (z : ℤ) → IsInRange numbering z → (k : ℕ) × (z ≡ number_of numbering k)
number_in_range Fields (pos n) h = (n, refl)
number_in_range Fields (negsuc n) h = let low = h.0 in absurd (omega (arith, ints))
number_in_range Values (pos n) h = (2147483648 + n, omega (arith, ints))
number_in_range Values (negsuc n) h = let low = h.0 in (2147483647 - n, omega (arith, ints))
