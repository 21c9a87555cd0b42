-- What lists that are made of others have, and in which order.
use Rattle.std.proofs.Common.{◌≡◌, ◌⊎◌, ◌∙◌, inl, inr, ℕ, zero, suc, ◌+◌, Bool, true, false, cond, List, [], ◌∷◌, map, drop, take, Option, Some, None, refl, sym, ap, subst, arith, add-zero}
use Rattle.std.specs.Prelude.{Contains, filter}
use Rattle.std.specs.List.{cons_option, enumerate_from, filter_map, flat_map, list_any, slice_get}
use Rattle.std.proofs.lemmas.Option.{get_or_from_slice_get, slice_get-get_or, slice_get_within}
use Rattle.std.proofs.lemmas.List.Elements.{Contains-append_cases, Contains-append_left, Contains-append_right}
use Rattle.std.proofs.lemmas.List.Folds.{Any-from_list_any, list_any-from_Any}
use Rattle.proto_laws.specs.Bodies.{Precedes, first, behind}
use Rattle.proto_laws.proofs.Holders.{cases_in, either, first_in, inside, later_in, none_in}

-- ---- elements

pub one_only : {X : Type 0} (x y : X) → Contains (x ∷ []) y → y ≡ x
one_only x y c = either (λ same. sym same) (λ none. absurd (none_in y none)) (cases_in x [] y c)

pub just : {X : Type 0} (x y : X) → y ≡ x → Contains (x ∷ []) y
just x y e = subst (Contains (x ∷ [])) (sym e) (first_in x [])

-- an element of the lists that the elements of a list give
pub record IsPart {X Y : Type 0} (f : X → List Y) (xs : List X) (y : Y) : Type 0 where
  pub whole : X
  pub there : Contains xs whole
  pub has : Contains (f whole) y

pub flat_map-has : {X Y : Type 0} (f : X → List Y) (xs : List X) (y : Y) → Contains (flat_map f xs) y → IsPart f xs y
flat_map-has f [] y c = absurd (none_in y c)
flat_map-has f (x ∷ xs) y c =
    either (λ own. record { whole = x; there = first_in x xs; has = own })
    (λ more. let h = flat_map-has f xs y more in record { whole = h.whole; there = later_in x xs h.whole h.there; has = h.has })
    (Contains-append_cases (f x) (flat_map f xs) y c)

pub in_flat_map : {X Y : Type 0} (f : X → List Y) (xs : List X) (x : X) (y : Y) → Contains xs x → Contains (f x) y → Contains (flat_map f xs) y
in_flat_map f [] x y c h = absurd (none_in x c)
in_flat_map f (z ∷ xs) x y c h =
    either (λ same. Contains-append_left (f z) (flat_map f xs) y (subst (λ w. Contains (f w) y) (sym same) h))
    (λ later. Contains-append_right (f z) (flat_map f xs) y (in_flat_map f xs x y later h))
    (cases_in z xs x c)

-- an element that another one is mapped to
pub record IsImage {X Y : Type 0} (f : X → Y) (xs : List X) (y : Y) : Type 0 where
  pub source : X
  pub there : Contains xs source
  pub is : f source ≡ y

pub map-has : {X Y : Type 0} (f : X → Y) (xs : List X) (y : Y) → Contains (map f xs) y → IsImage f xs y
map-has f [] y c = absurd (none_in y c)
map-has f (x ∷ xs) y c =
    either (λ same. record { source = x; there = first_in x xs; is = same })
    (λ more. let h = map-has f xs y more in record { source = h.source; there = later_in x xs h.source h.there; is = h.is })
    (cases_in (f x) (map f xs) y c)

pub in_map : {X Y : Type 0} (f : X → Y) (xs : List X) (x : X) → Contains xs x → Contains (map f xs) (f x)
in_map f [] x c = absurd (none_in x c)
in_map f (z ∷ xs) x c =
    either (λ same. subst (λ w. Contains (f z ∷ map f xs) (f w)) same (first_in (f z) (map f xs)))
    (λ later. later_in (f z) (map f xs) (f x) (in_map f xs x later))
    (cases_in z xs x c)

abbrev pub IsGiven : {X Y : Type 0} → (X → Option Y) → List X → Y → Type 0
IsGiven {X} f xs y = (x : X) × Contains xs x × (f x ≡ Some y)

pub filter_map-has : {X Y : Type 0} (f : X → Option Y) (xs : List X) (y : Y) → Contains (filter_map f xs) y → IsGiven f xs y
filter_map-has f [] y c = absurd (none_in y c)
filter_map-has {X} {Y} f (x ∷ xs) y c = by (f x) refl (λ c. let h = filter_map-has f xs y c in (h.0, later_in x xs h.0 h.1, h.2)) c
  where
    by : (o : Option Y) → f x ≡ o → (Contains (filter_map f xs) y → IsGiven f (x ∷ xs) y) → Contains (cons_option o (filter_map f xs)) y → IsGiven f (x ∷ xs) y
    by None e more c = more c
    by (Some z) e more c = either (λ same. (x, first_in x xs, e ∙ ap (λ w. Some w) same)) more (cases_in z (filter_map f xs) y c)

onto : {Y : Type 0} (o : Option Y) (ys : List Y) (y : Y) → Contains ys y → Contains (cons_option o ys) y
onto None ys y c = c
onto (Some z) ys y c = later_in z ys y c

pub in_filter_map : {X Y : Type 0} (f : X → Option Y) (xs : List X) (x : X) (y : Y) → Contains xs x → f x ≡ Some y → Contains (filter_map f xs) y
in_filter_map f [] x y c e = absurd (none_in x c)
in_filter_map f (z ∷ xs) x y c e =
    either (λ same. subst (λ o. Contains (cons_option o (filter_map f xs)) y) (sym (ap f same ∙ e)) (first_in y (filter_map f xs)))
    (λ later. onto (f z) (filter_map f xs) y (in_filter_map f xs x y later e))
    (cases_in z xs x c)

pub list_any-has : {X : Type 0} (p : X → Bool) (xs : List X) → list_any p xs ≡ true → (x : X) × Contains xs x × (p x ≡ true)
list_any-has p xs e = let a = Any-from_list_any p xs e in (a.1, (a.0, a.2, a.3), a.4)

pub list_any-is : {X : Type 0} (p : X → Bool) (xs : List X) (x : X) → Contains xs x → p x ≡ true → list_any p xs ≡ true
list_any-is p xs x c e = list_any-from_Any p xs (c.0, x, c.1, c.2, e)

pub at_place : {X : Type 0} (xs : List X) (i : ℕ) (x : X) → slice_get xs i ≡ Some x → Contains xs x
at_place xs i x e = (i, slice_get_within xs i x e, get_or_from_slice_get xs i x x e)

pub place_of : {X : Type 0} (xs : List X) (x : X) → Contains xs x → (i : ℕ) × (slice_get xs i ≡ Some x)
place_of xs x c = (c.0, slice_get-get_or xs c.0 x c.1 ∙ ap (λ y. Some y) c.2)

-- ---- order

pub both-first : {X : Type 0} {xs : List X} {x y : X} → Precedes xs x y → Contains xs x
both-first (first {xs} {x} {y} c) = first_in x xs
both-first (behind {xs} {x} {y} {z} h) = later_in z xs x (both-first h)

pub both-second : {X : Type 0} {xs : List X} {x y : X} → Precedes xs x y → Contains xs y
both-second (first {xs} {x} {y} c) = later_in x xs y c
both-second (behind {xs} {x} {y} {z} h) = later_in z xs y (both-second h)

-- the second of the two isn't the first element of all
pub not_first : {X : Type 0} (xs : List X) (y : X) → Contains (drop 1 xs) y → (x : X) × Precedes xs x y
not_first [] y c = absurd (none_in y c)
not_first (x ∷ xs) y c = (x, first c)

pub behind_first : {X : Type 0} {xs : List X} {x y : X} → Precedes xs x y → Contains (drop 1 xs) y
behind_first (first c) = c
behind_first (behind h) = both-second h

-- of a mapped list
pub record AreImages {X Y : Type 0} (f : X → Y) (xs : List X) (a b : Y) : Type 0 where
  pub one : X
  pub two : X
  pub order : Precedes xs one two
  pub one_is : f one ≡ a
  pub two_is : f two ≡ b

pub map-order : {X Y : Type 0} (f : X → Y) (xs : List X) (a b : Y) → Precedes (map f xs) a b → AreImages f xs a b
map-order f [] a b h = absurd (none_in a (both-first h))
map-order f (x ∷ xs) a b (first c) = let h = map-has f xs b c in record { one = x; two = h.source; order = first h.there; one_is = refl; two_is = h.is }
map-order f (x ∷ xs) a b (behind g) = let h = map-order f xs a b g in record { one = h.one; two = h.two; order = behind h.order; one_is = h.one_is; two_is = h.two_is }

pub order-map : {X Y : Type 0} (f : X → Y) {xs : List X} {x y : X} → Precedes xs x y → Precedes (map f xs) (f x) (f y)
order-map f (first {xs} {x} {y} c) = first (in_map f xs y c)
order-map f (behind h) = behind (order-map f h)

order-cases : {X : Type 0} (x : X) (xs : List X) (a b : X) → Precedes (x ∷ xs) a b → ((x ≡ a) × Contains xs b) ⊎ Precedes xs a b
order-cases x xs a b (first c) = inl (refl, c)
order-cases x xs a b (behind h) = inr h

-- of those that a function gives
pub record AreGiven {X Y : Type 0} (f : X → Option Y) (xs : List X) (a b : Y) : Type 0 where
  pub one : X
  pub two : X
  pub order : Precedes xs one two
  pub one_is : f one ≡ Some a
  pub two_is : f two ≡ Some b

pub filter_map-order : {X Y : Type 0} (f : X → Option Y) (xs : List X) (a b : Y) → Precedes (filter_map f xs) a b → AreGiven f xs a b
filter_map-order f [] a b h = absurd (none_in a (both-first h))
filter_map-order {X} {Y} f (x ∷ xs) a b h =
    by (f x) refl (λ g. let h = filter_map-order f xs a b g in record { one = h.one; two = h.two; order = behind h.order; one_is = h.one_is; two_is = h.two_is }) h
  where
    by : (o : Option Y) → f x ≡ o → (Precedes (filter_map f xs) a b → AreGiven f (x ∷ xs) a b) → Precedes (cons_option o (filter_map f xs)) a b → AreGiven f (x ∷ xs) a b
    by None e more g = more g
    by (Some z) e more g =
        either (λ p. let h = filter_map-has f xs b p.1 in record { one = x; two = h.0; order = first h.1; one_is = e ∙ ap (λ w. Some w) p.0; two_is = h.2 })
        more (order-cases z (filter_map f xs) a b g)

onto-order : {Y : Type 0} (o : Option Y) (ys : List Y) (a b : Y) → Precedes ys a b → Precedes (cons_option o ys) a b
onto-order None ys a b h = h
onto-order (Some z) ys a b h = behind h

pub order-filter_map : {X Y : Type 0} (f : X → Option Y) {xs : List X} {x y : X} (a b : Y) → Precedes xs x y → f x ≡ Some a → f y ≡ Some b → Precedes (filter_map f xs) a b
order-filter_map f a b (first {xs} {x} {y} c) one two = subst (λ o. Precedes (cons_option o (filter_map f xs)) a b) (sym one) (first (in_filter_map f xs y b c two))
order-filter_map f a b (behind {xs} {x} {y} {z} h) one two = onto-order (f z) (filter_map f xs) a b (order-filter_map f a b h one two)

-- ---- those that pass a test

abbrev pub passing : {X : Type 0} → (X → Bool) → X → Option X
passing p x = cond (p x) (Some x) None

filter-is : {X : Type 0} (p : X → Bool) (xs : List X) → filter p xs ≡ filter_map (passing p) xs
filter-is p [] = refl
filter-is {X} p (x ∷ xs) = by (p x) (filter-is p xs)
  where
    by : (b : Bool) → filter p xs ≡ filter_map (passing p) xs → cond {A = List X} b (x ∷ filter p xs) (filter p xs) ≡ cons_option (cond b (Some x) None) (filter_map (passing p) xs)
    by true more = ap (λ l. x ∷ l) more
    by false more = more

passes : {X : Type 0} (p : X → Bool) (x y : X) → passing p x ≡ Some y → (x ≡ y) × (p x ≡ true)
passes {X} p x y e = by (p x) refl e
  where
    by : (b : Bool) → p x ≡ b → cond {A = Option X} b (Some x) None ≡ Some y → (x ≡ y) × (p x ≡ true)
    by true is e = (inside x y e, is)
    by false is e = cc

pass : {X : Type 0} (p : X → Bool) (x : X) → p x ≡ true → passing p x ≡ Some x
pass {X} p x e = ap (λ (b : Bool). cond {A = Option X} b (Some x) None) e

pub filter-has : {X : Type 0} (p : X → Bool) (xs : List X) (x : X) → Contains (filter p xs) x → Contains xs x × (p x ≡ true)
filter-has p xs x c =
    let h = filter_map-has (passing p) xs x (subst (λ l. Contains l x) (filter-is p xs) c) in
    let k = passes p h.0 x h.2 in
    (subst (Contains xs) k.0 h.1, subst (λ z. p z ≡ true) k.0 k.1)

pub in_filter : {X : Type 0} (p : X → Bool) (xs : List X) (x : X) → Contains xs x → p x ≡ true → Contains (filter p xs) x
in_filter p xs x c e = subst (λ l. Contains l x) (sym (filter-is p xs)) (in_filter_map (passing p) xs x x c (pass p x e))

pub filter-order : {X : Type 0} (p : X → Bool) (xs : List X) (x y : X) → Precedes (filter p xs) x y → Precedes xs x y × (p x ≡ true) × (p y ≡ true)
filter-order p xs x y h =
    let g = filter_map-order (passing p) xs x y (subst (λ l. Precedes l x y) (filter-is p xs) h) in
    let k = passes p g.one x g.one_is in
    let l = passes p g.two y g.two_is in
    (subst (λ z. Precedes xs z y) k.0 (subst (Precedes xs g.one) l.0 g.order), subst (λ z. p z ≡ true) k.0 k.1, subst (λ z. p z ≡ true) l.0 l.1)

pub order-filter : {X : Type 0} (p : X → Bool) {xs : List X} {x y : X} → Precedes xs x y → p x ≡ true → p y ≡ true → Precedes (filter p xs) x y
order-filter p {xs} {x} {y} h one two = subst (λ l. Precedes l x y) (sym (filter-is p xs)) (order-filter_map (passing p) x y h (pass p x one) (pass p y two))

-- ---- each element with its number, and those before it

pub numbered-has : {X : Type 0} (n : ℕ) (xs : List X) (e : ℕ × X) → Contains (enumerate_from n xs) e → (i : ℕ) × (e.0 ≡ n + i) × (slice_get xs i ≡ Some e.1)
numbered-has n [] e c = absurd (none_in e c)
numbered-has n (x ∷ xs) e c =
    either (λ same. (0, ap (λ (p : ℕ × _). p.0) (sym same) ∙ sym (add-zero n), ap (λ (p : ℕ × _). Some p.1) same))
    (λ more. let h = numbered-has (n + 1) xs e more in (suc h.0, (let is = h.1 in omega (arith, is)), h.2))
    (cases_in (n, x) (enumerate_from (n + 1) xs) e c)

pub in_numbered : {X : Type 0} (n : ℕ) (xs : List X) (i : ℕ) (x : X) → slice_get xs i ≡ Some x → Contains (enumerate_from n xs) (n + i, x)
in_numbered n [] i x e = absurd (cc (e))
in_numbered n (y ∷ xs) zero x e =
    let same : y ≡ x = inside y x e in
    let number : n ≡ n + 0 = omega arith in
    subst (λ p. Contains (enumerate_from n (y ∷ xs)) p) (λ i. (number i, same i)) (first_in (n, y) (enumerate_from (n + 1) xs))
in_numbered n (y ∷ xs) (suc i) x e =
    let number : (n + 1) + i ≡ n + suc i = omega arith in
    later_in (n, y) (enumerate_from (n + 1) xs) (n + suc i, x) (subst (λ k. Contains (enumerate_from (n + 1) xs) (k, x)) number (in_numbered (n + 1) xs i x e))

-- those before it
pub before-order : {X : Type 0} (xs : List X) (i : ℕ) (x y : X) → slice_get xs i ≡ Some y → Contains (take i xs) x → Precedes xs x y
before-order [] i x y e c = absurd (cc (e))
before-order (z ∷ xs) zero x y e c = absurd (none_in x c)
before-order (z ∷ xs) (suc i) x y e c =
    either (λ same. subst (λ w. Precedes (z ∷ xs) w y) same (first (at_place xs i y e)))
    (λ later. behind (before-order xs i x y e later))
    (cases_in z (take i xs) x c)

pub order-before : {X : Type 0} {xs : List X} {x y : X} → Precedes xs x y → (i : ℕ) × (slice_get xs i ≡ Some y) × Contains (take i xs) x
order-before (first {xs} {x} {y} c) = let p = place_of xs y c in (suc p.0, p.1, first_in x (take p.0 xs))
order-before (behind {xs} {x} {y} {z} h) = let g = order-before h in (suc g.0, g.1, later_in z (take g.0 xs) x g.2)
