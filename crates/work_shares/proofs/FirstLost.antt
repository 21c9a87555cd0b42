-- The first import that names no analysed file, as it is looked for one after the other.
use Rattle.std.proofs.Common.{◌≡◌, ℕ, ◌+◌, ◌<◌, List, [], ◌∷◌, ◌++◌, Some, None, length, drop, get_or, refl, sym, ap, ◌∙◌, add-one, drop-cons}
use Rattle.std.specs.Prelude.{slice_get}
use Rattle.std.specs.List.{enumerate_from, flat_map}

module _ {A : Type 0} where
  -- the first of a list is that of the list with more behind it
  pub first-front : (xs ys : List A) (x : A) → slice_get xs 0 ≡ Some x → slice_get (xs ++ ys) 0 ≡ Some x
  first-front [] ys x e = absurd (cc (e))
  first-front (y ∷ xs) ys x e = e

  -- a list without a first is empty
  pub none-first : (xs : List A) → slice_get xs 0 ≡ None → xs ≡ []
  none-first [] e = refl
  none-first (x ∷ xs) e = absurd (cc (e))

  -- what is left begins with what one item gives: where that has a first, it is the first of all, and else the rest is all
  pub first-of : (here rest left all : List A) (x : A) → left ≡ here ++ rest → left ≡ all → slice_get here 0 ≡ Some x → slice_get all 0 ≡ Some x
  first-of here rest left all x cut is e = ap (λ ys. slice_get ys 0) (sym is ∙ cut) ∙ first-front here rest x e

  pub rest-of : (here rest left all : List A) → left ≡ here ++ rest → left ≡ all → slice_get here 0 ≡ None → rest ≡ all
  rest-of here rest left all cut is e = sym (cut ∙ ap (λ ys. ys ++ rest) (none-first here e)) ∙ is

next_drop : {X : Type 0} (xs : List X) (k : ℕ) (d : X) → k < length xs → drop k xs ≡ get_or xs k d ∷ drop (k + 1) xs
next_drop xs k d lt = rw (add-one k) (drop-cons xs k d lt)

-- what comes of the items from a number on
pub from-here : {X A : Type 0} (f : X → List A) (xs : List X) (k : ℕ) (d : X) → k < length xs → flat_map f (drop k xs) ≡ f (get_or xs k d) ++ flat_map f (drop (k + 1) xs)
from-here f xs k d lt = ap (flat_map f) (next_drop xs k d lt)

-- the same of items with their numbers
pub from-number : {X A : Type 0} (f : ℕ × X → List A) (xs : List X) (k : ℕ) (d : X) → k < length xs
    → flat_map f (enumerate_from k (drop k xs)) ≡ f (k, get_or xs k d) ++ flat_map f (enumerate_from (k + 1) (drop (k + 1) xs))
from-number f xs k d lt = ap (λ ys. flat_map f (enumerate_from k ys)) (next_drop xs k d lt)
