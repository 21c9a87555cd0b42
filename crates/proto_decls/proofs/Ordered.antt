-- Lists in order, each element once.
use Rattle.std.proofs.Common.{◌≡◌, ℕ, zero, suc, ◌<◌, List, [], ◌∷◌, length, get_or, refl, sym, ap, ◌∙◌, inl, inr, ◌⊎◌, arith}
use Rattle.std.specs.List.{Contains, AllByRecursion}
use Rattle.std.specs.List.Sorted.{IsStrictlySortedBy}
use Rattle.std.specs.declared.cmp.Ordering.{Ordering}
use Rattle.std.specs.declared.cmp.Ordering.TheVariants.{Less, Equal, Greater}
use Rattle.std.specs.Ordering.{match_ordering, ordering_reverse}
use Rattle.std.specs.Cmp.{IsTotalOrder}
use Rattle.std.proofs.lemmas.Cmp.{tied_itself}
use Rattle.proto_decls.specs.Order.{inserted, each_once}

-- the element is one of the list
abbrev pub Among : {K : Type 0} → K → List K → Type 0
Among x [] = ⊥
Among x (y ∷ ys) = (x ≡ y) ⊎ Among x ys

among-at : {K : Type 0} (xs : List K) (x : K) (k : ℕ) → k < length xs → get_or xs k x ≡ x → Among x xs
among-at [] x k lt is = absurd (omega arith)
among-at (y ∷ ys) x zero lt is = inl (sym is)
among-at (y ∷ ys) x (suc k) lt is = inr (among-at ys x k (omega arith) is)

pub Among-from : {K : Type 0} (xs : List K) (x : K) → Contains xs x → Among x xs
Among-from xs x c = among-at xs x c.0 c.1 c.2

later : {K : Type 0} (y : K) (ys : List K) (x : K) → Contains ys x → Contains (y ∷ ys) x
later y ys x c = (suc c.0, omega (arith, c.1), c.2)

pub Contains-from : {K : Type 0} (xs : List K) (x : K) → Among x xs → Contains xs x
Contains-from [] x h = absurd h
Contains-from (y ∷ ys) x h = elim h [ inl e ↦ (0, omega arith, sym e) | inr h ↦ later y ys x (Contains-from ys x h) ]

not_less : (r : Ordering) → r ≡ Less → r ≡ ordering_reverse Less → ⊥
not_less r e f = let g : Less ≡ Greater = sym e ∙ f in cc

module _ {K : Type 0} {R : K → K → Ordering} (o : IsTotalOrder R) (tied : (x y : K) → R x y ≡ Equal → x ≡ y) where
  abbrev Below : K → List K → Type 0
  Below x ys = AllByRecursion (λ y. R x y ≡ Less) ys

  below-among : (x : K) (ys : List K) (z : K) → Below x ys → Among z ys → R x z ≡ Less
  below-among x [] z b h = absurd h
  below-among x (y ∷ ys) z b h = elim h [ inl e ↦ ap (R x) e ∙ b.0 | inr h ↦ below-among x ys z b.1 h ]

  below-trans : (x y : K) (zs : List K) → R x y ≡ Less → Below y zs → Below x zs
  below-trans x y [] lt b = b
  below-trans x y (z ∷ zs) lt b = (o.trans x y z lt b.0, below-trans x y zs lt b.1)

  irreflexive : (x : K) → R x x ≡ Less → ⊥
  irreflexive x e = let g : Less ≡ Equal = sym e ∙ tied_itself o x in cc

  -- ---- one list with these elements

  head : (x y : K) (xs ys : List K) → Below x xs → Below y ys → Among x (y ∷ ys) → Among y (x ∷ xs) → x ≡ y
  head x y xs ys bx by_ hx hy = elim hx [
    | inl e ↦ e
    | inr h ↦ elim hy [
      | inl e ↦ sym e
      | inr g ↦ absurd (not_less (R x y) (below-among x xs y bx g) (o.antisymm x y ∙ ap ordering_reverse (below-among y ys x by_ h)))
    ]
  ]

  behind : (x : K) (xs : List K) (z : K) → Below x xs → Among z xs → (z ≡ x) → ⊥
  behind x xs z b h e = irreflexive x (sym (ap (R x) e) ∙ below-among x xs z b h)

  tail : (x y : K) (xs ys : List K) → Below x xs → x ≡ y → ((z : K) → Among z (x ∷ xs) → Among z (y ∷ ys)) → (z : K) → Among z xs → Among z ys
  tail x y xs ys b e h z g = elim (h z (inr g)) [ inl f ↦ absurd (behind x xs z b g (f ∙ sym e)) | inr g ↦ g ]

  pub one_list : (xs ys : List K) → IsStrictlySortedBy R xs → IsStrictlySortedBy R ys → ((z : K) → Among z xs → Among z ys) → ((z : K) → Among z ys → Among z xs) → xs ≡ ys
  unfolding IsStrictlySortedBy
  one_list [] [] sx sy h g = refl
  one_list [] (y ∷ ys) sx sy h g = absurd (g y (inl refl))
  one_list (x ∷ xs) [] sx sy h g = absurd (h x (inl refl))
  one_list (x ∷ xs) (y ∷ ys) sx sy h g =
      let first = head x y xs ys sx.0 sy.0 (h x (inl refl)) (g y (inl refl)) in
      let rest = one_list xs ys sx.1 sy.1 (tail x y xs ys sx.0 first h) (tail y x ys xs sy.0 (sym first) g) in
      λ i. first i ∷ rest i

  -- ---- an element put in its place

  below-inserted : (y x : K) (ys : List K) → R y x ≡ Less → Below y ys → Below y (inserted R x ys)
  below-inserted y x [] lt b = (lt, b)
  below-inserted y x (z ∷ zs) lt b =
      elim (R x z) as (λ r. Below y (match_ordering r (x ∷ z ∷ zs) (z ∷ zs) (z ∷ inserted R x zs))) [
        | Less ↦ (lt, b)
        | Equal ↦ b
        | Greater ↦ (b.0, below-inserted y x zs lt b.1)
      ]

  pub sorted-inserted : (x : K) (ys : List K) → IsStrictlySortedBy R ys → IsStrictlySortedBy R (inserted R x ys)
  unfolding IsStrictlySortedBy
  sorted-inserted x [] s = (s, s)
  sorted-inserted x (y ∷ ys) s =
      elim (R x y) as (λ r. R x y ≡ r → IsStrictlySortedBy R (match_ordering r (x ∷ y ∷ ys) (y ∷ ys) (y ∷ inserted R x ys))) [
        | Less ↦ λ e. ((e, below-trans x y ys e s.0), s)
        | Equal ↦ λ e. s
        | Greater ↦ λ e. (below-inserted y x ys (o.antisymm y x ∙ ap ordering_reverse e) s.0, sorted-inserted x ys s.1)
      ] refl

  pub among-inserted : (x : K) (ys : List K) (z : K) → Among z (x ∷ ys) → Among z (inserted R x ys)
  among-inserted x [] z h = h
  among-inserted x (y ∷ ys) z h =
      elim (R x y) as (λ r. R x y ≡ r → Among z (match_ordering r (x ∷ y ∷ ys) (y ∷ ys) (y ∷ inserted R x ys))) [
        | Less ↦ λ e. h
        | Equal ↦ λ e. elim h [ inl f ↦ inl (f ∙ tied x y e) | inr g ↦ g ]
        | Greater ↦ λ e. elim h [
          | inl f ↦ inr (among-inserted x ys z (inl f))
          | inr g ↦ elim g [ inl f ↦ inl f | inr g ↦ inr (among-inserted x ys z (inr g)) ]
        ]
      ] refl

  pub among-from_inserted : (x : K) (ys : List K) (z : K) → Among z (inserted R x ys) → Among z (x ∷ ys)
  among-from_inserted x [] z = λ h. h
  among-from_inserted x (y ∷ ys) z =
      elim (R x y) as (λ r. Among z (match_ordering r (x ∷ y ∷ ys) (y ∷ ys) (y ∷ inserted R x ys)) → Among z (x ∷ y ∷ ys)) [
        | Less ↦ λ h. h
        | Equal ↦ λ h. inr h
        | Greater ↦ λ h. elim h [
          | inl f ↦ inr (inl f)
          | inr g ↦ elim (among-from_inserted x ys z g) [ inl f ↦ inl f | inr g ↦ inr (inr g) ]
        ]
      ]

  pub sorted-each_once : (xs : List K) → IsStrictlySortedBy R (each_once R xs)
  unfolding IsStrictlySortedBy
  sorted-each_once [] = tt
  sorted-each_once (x ∷ xs) = sorted-inserted x (each_once R xs) (sorted-each_once xs)

  pub among-each_once : (xs : List K) (z : K) → Among z xs → Among z (each_once R xs)
  among-each_once [] z h = h
  among-each_once (x ∷ xs) z h = among-inserted x (each_once R xs) z (elim h [ inl f ↦ inl f | inr g ↦ inr (among-each_once xs z g) ])

  pub among-from_each_once : (xs : List K) (z : K) → Among z (each_once R xs) → Among z xs
  among-from_each_once [] z h = h
  among-from_each_once (x ∷ xs) z h = elim (among-from_inserted x (each_once R xs) z h) [ inl f ↦ inl f | inr g ↦ inr (among-from_each_once xs z g) ]
