-- Scopes of a chain, by the lengths of the front parts that they are.
use Rattle.std.proofs.Common.{◌≡◌, ◌∙◌, inl, inr, ◌<◌, ◌≤◌, ◌-◌, ℕ, List, [], ◌∷◌, ◌++◌, Bool, false, Some, None, Option, get_or, length, take, arith}
use Rattle.std.specs.Prelude.{All, slice_index_or}
use Rattle.std.specs.List.Sorted.{IsNonDecreasing}
use Rattle.std.specs.String.Boundary.{IsSplitPoint}
use Rattle.std.proofs.lemmas.Bool.{cases_lt}
use Rattle.std.proofs.lemmas.List.{get_or-take, get_or_append_left, length-append, length-take-le}
use Rattle.std.proofs.Math.Seq.{get_or-append_seam}
use Rattle.proto_decls.specs.Text.{joined}
use Rattle.proto_names.specs.Holders.{earlier, IsNext, IsPast}
use Rattle.proto_resolve.specs.ScopeChains.{front_parts}
use Rattle.proto_decls.proofs.LastParts.{front_is}
use Rattle.proto_resolve.proofs.ScopeChains.{as_many, part_at}

pub one_rises : (n : ℕ) → IsNonDecreasing (n ∷ [])
one_rises n i j d le lt = let first : i ≡ 0 = omega (arith, le, lt) in let last : j ≡ 0 = omega (arith, lt) in rw (first, last) (omega arith)

-- one more, as long as the others
pub rises_pushed : (ns : List ℕ) (n : ℕ) → IsNonDecreasing ns → All (λ m. m ≤ n) ns → IsNonDecreasing (ns ++ n ∷ [])
rises_pushed ns n up most i j d le lt = elim (cases_lt j (length ns)) [
  | inl before ↦ rw (get_or_append_left ns (n ∷ []) d i (omega (arith, le, before)), get_or_append_left ns (n ∷ []) d j before) (up i j d le before)
  | inr behind ↦
      let last : j ≡ length ns = omega (arith, behind, lt, length-append ns (n ∷ [])) in
      let seam : get_or (ns ++ n ∷ []) (length ns) d ≡ n = get_or-append_seam ns n [] d in
      elim (cases_lt i (length ns)) [
        | inl before ↦ rw (last, seam, get_or_append_left ns (n ∷ []) d i before) (most i d before)
        | inr behind' ↦ let last' : i ≡ length ns = omega (arith, behind', le, last) in rw (last, last', seam) (omega arith)
      ]
]

pub not_longer : (bs name ns : List ℕ) → All (IsSplitPoint bs) ns → All (λ m. m ≤ length (joined bs name)) ns
not_longer [] name ns points k d lt = let p : IsSplitPoint [] (get_or ns k d) = points k d lt in omega (arith, p.0)
not_longer (c ∷ bs) name ns points k d lt = let p : IsSplitPoint (c ∷ bs) (get_or ns k d) = points k d lt in omega (arith, p.0, length-append (c ∷ bs) (46 ∷ name))

pub some_within : (bs ns : List ℕ) (n : ℕ) → n ≤ length ns → All (IsSplitPoint bs) ns → All (λ m. m ≤ length bs) (take n ns)
some_within bs ns n le points k d lt =
    let early : k < n = omega (arith, lt, length-take-le n ns le) in
    let p : IsSplitPoint bs (get_or ns k d) = points k d (omega (arith, early, le)) in
    rw (get_or-take n ns k d early) p.0

module _ (test : List ℕ → Bool) (bs ns : List ℕ) (number : ℕ) (within : number ≤ length ns) where
  scope_is : (k : ℕ) → k < length ns → slice_index_or (front_parts bs ns) k [] ≡ take (get_or ns (length ns - 1 - k) 0) bs
  scope_is k lt = part_at bs ns k lt ∙ front_is bs (get_or ns (length ns - 1 - k) 0)

  short : length (take (length ns - number) ns) ≡ length ns - number
  short = length-take-le (length ns - number) ns (omega arith)

  read : (k : ℕ) → number ≤ k → k < length ns → get_or (take (length ns - number) ns) (length ns - 1 - k) 0 ≡ get_or ns (length ns - 1 - k) 0
  read k from lt = get_or-take (length ns - number) ns (length ns - 1 - k) 0 (omega (arith, from, lt))

  fails : (k : ℕ) → number ≤ k → k < length ns → test (take (get_or (take (length ns - number) ns) (length ns - 1 - k) 0) bs) ≡ false → test (slice_index_or (front_parts bs ns) k []) ≡ false
  fails k from lt e = let e' : test (take (get_or ns (length ns - 1 - k) 0) bs) ≡ false = rw (read k from lt) at e in rw (scope_is k lt) e'

  pub none_next : IsPast (λ l. test (take l bs)) (take (length ns - number) ns) None → IsNext test (front_parts bs ns) number None
  none_next none k from lt =
      let lt' : k < length ns = omega (arith, lt, as_many bs ns) in
      fails k from lt' (none (length ns - 1 - k) (omega (arith, from, lt', short)))

  pub some_next : (i : ℕ) → IsPast (λ l. test (take l bs)) (take (length ns - number) ns) (Some i) → IsNext test (front_parts bs ns) number (Some (length ns - 1 - i))
  some_next i last = (
    omega (arith, last.0, short, within),
    omega (arith, last.0, short, within, as_many bs ns),
    λ k from lt.
        let lt' : k < length ns = omega (arith, lt) in
        fails k from lt' (last.1 (length ns - 1 - k) (omega (arith, lt)) (omega (arith, from, lt', short))),
  )

module _ (scopes : List (List ℕ)) (number : ℕ) where
  pub next_here : (test : List ℕ → Bool) → number < length scopes → IsNext test scopes number (Some number)
  next_here test lt = (omega arith, lt, λ k from before. absurd (omega (arith, from, before)))

  pub next_weaker : (f g : List ℕ → Bool) → ((s : List ℕ) → f s ≡ false → g s ≡ false) → (r : Option ℕ) → IsNext f scopes number r → IsNext g scopes number r
  next_weaker f g so None next = λ k from lt. so (get_or scopes k []) (next k from lt)
  next_weaker f g so (Some i) next = (next.0, next.1, λ k from lt. so (get_or scopes k []) (next.2 k from lt))

  module _ (f g h : List ℕ → Bool) (so : (s : List ℕ) → f s ≡ false → g s ≡ false → h s ≡ false) where
    pub next_two : (a b : Option ℕ) → IsNext f scopes number a → IsNext g scopes number b → IsNext h scopes number (earlier a b)
    next_two None None p q = λ k from lt. so (get_or scopes k []) (p k from lt) (q k from lt)
    next_two None (Some y) p q = (q.0, q.1, λ k from lt. so (get_or scopes k []) (p k from (omega (arith, lt, q.1))) (q.2 k from lt))
    next_two (Some x) None p q = (p.0, p.1, λ k from lt. so (get_or scopes k []) (p.2 k from lt) (q k from (omega (arith, lt, p.1))))
    next_two (Some x) (Some y) p q = (omega (arith, p.0, q.0), omega (arith, p.1), λ k from lt. so (get_or scopes k []) (p.2 k from (omega (arith, lt))) (q.2 k from (omega (arith, lt))))
