-- The longest front of a list that has a form.
use Rattle.std.proofs.Common.{◌≡◌, ℕ, suc, zero, ◌+◌, ◌<◌, ◌≤◌, List, ◌∷◌, length, get_or, take, drop, refl, sym, subst, arith, drop-cons, add-one, zero-add}
use Rattle.proto_lex.specs.Scanner.{IsLongestFront}

-- one byte more at the front
longer : (C : Type 0) (F G : C → List ℕ → Type 0) (b : ℕ) (bs : List ℕ) (n : ℕ) (c : C)
    → ((d : C) (xs : List ℕ) → G d (b ∷ xs) → F d xs)
    → IsLongestFront C F bs n c → (d : C) (m : ℕ) → suc n < m → m ≤ length (b ∷ bs) → G d (take m (b ∷ bs)) → ⊥
longer C F G b bs n c uncons ends d zero above within form = omega arith
longer C F G b bs n c uncons ends d (suc m) above within form =
    ends.longest d m (omega arith) (omega arith) (uncons d (take m bs) form)

pub IsLongestFront-cons : (C : Type 0) (F G : C → List ℕ → Type 0) (b : ℕ) (bs : List ℕ) (n : ℕ) (c : C)
    → ((xs : List ℕ) → F c xs → G c (b ∷ xs))
    → ((d : C) (xs : List ℕ) → G d (b ∷ xs) → F d xs)
    → IsLongestFront C F bs n c → IsLongestFront C G (b ∷ bs) (suc n) c
IsLongestFront-cons C F G b bs n c cons uncons ends = record {
  in_range = omega (arith, ends.in_range);
  form = cons (take n bs) ends.form;
  longest = longer C F G b bs n c uncons ends;
}

-- what ends the bytes from an offset on, in the form F, ends all of them, in the form G
abbrev pub Continues : (C : Type 0) (F G : C → List ℕ → Type 0) → List ℕ → ℕ → Type 0
Continues C F G bs at = (n : ℕ) (c : C) → IsLongestFront C F (drop at bs) n c → IsLongestFront C G bs (at + n) c

-- the bytes from an offset on, with the first of them apart
pub at_place : (C : Type 0) (F : C → List ℕ → Type 0) (bs : List ℕ) (at n : ℕ) (c : C) → at < length bs
    → IsLongestFront C F (get_or bs at 0 ∷ drop (at + 1) bs) n c → IsLongestFront C F (drop at bs) n c
at_place C F bs at n c inside ends =
    let here : drop at bs ≡ get_or bs at 0 ∷ drop (at + 1) bs = rw (add-one, drop-cons bs at 0) refl in
    subst (λ l. IsLongestFront C F l n c) (sym here) ends

pub Continues-start : (C : Type 0) (F : C → List ℕ → Type 0) (bs : List ℕ) → Continues C F F bs 0
Continues-start C F bs n c ends = rw zero-add ends

-- one byte more
pub Continues-more : (C : Type 0) (E F G : C → List ℕ → Type 0) (bs : List ℕ) (at : ℕ) → at < length bs → Continues C F G bs at
    → ((n : ℕ) (c : C) → IsLongestFront C E (drop (at + 1) bs) n c → IsLongestFront C F (get_or bs at 0 ∷ drop (at + 1) bs) (suc n) c)
    → Continues C E G bs (at + 1)
Continues-more C E F G bs at inside continues step n c ends =
    let sum : at + suc n ≡ at + 1 + n = omega arith in
    subst (λ k. IsLongestFront C G bs k c) sum (continues (suc n) c (at_place C F bs at (suc n) c inside (step n c ends)))
