-- Buckets that have the same entries in the same order.
use Rattle.std.proofs.Common.{◌≡◌, ◌∙◌, ℕ, zero, suc, ◌+◌, ◌<◌, List, [], ◌∷◌, ◌++◌, length, get_or, map, take, subst, sym, ap, ap₂, arith, length-append, length-take-le}
use Rattle.std.proofs.lemmas.List.{map-append, take_more}
use Rattle.std.specs.Prelude.{filter}
use Rattle.std.specs.declared.cmp.Ordering.{Ordering}
use Rattle.proto_names.specs.declared.hashed.HashedDecl.{HashedDecl}
use Rattle.proto_names.specs.declared.hashed.HashedDecls.{HashedDecls}
use Rattle.proto_names.specs.Buckets.{AreCopies, AreInBuckets, is_in}
use Rattle.proto_names.specs.Tables.{AreRearranged}

same_at : {X Y : Type 0} (k : X → Y) (a b : List X) (i : ℕ) (d e : X) → i < length a → i < length b → map k a ≡ map k b → k (get_or a i d) ≡ k (get_or b i e)
same_at k [] b i d e there there' same = absurd (omega (arith, there))
same_at k (u ∷ a) [] i d e there there' same = absurd (omega (arith, there'))
same_at k (u ∷ a) (v ∷ b) zero d e there there' same = cc
same_at k (u ∷ a) (v ∷ b) (suc i) d e there there' same = let tails : map k a ≡ map k b = cc in same_at k a b i d e (omega (arith, there)) (omega (arith, there')) tails

-- copies of entries in buckets are entries in buckets
pub copied : (order : HashedDecl → HashedDecl → Ordering) (entries : List HashedDecl) (old new : List HashedDecls) → AreInBuckets order entries old → AreCopies old new → AreInBuckets order entries new
copied order entries old new are copies = record {
  some = let some = are.some in let count = copies.as_many in omega arith;
  each = λ n d lt.
      let there : n < length old = let count = copies.as_many in omega arith in
      let bucket = are.each n d there in
      record {
        sorted = bucket.sorted;
        same = subst (λ count. AreRearranged (filter (is_in count n) entries) bucket.sorted) (sym copies.as_many) bucket.same;
        ordered = bucket.ordered;
        hashes_are = same_at (λ (d : HashedDecls). d.hashes.items) new old n d d lt there copies.hashes_are ∙ bucket.hashes_are;
        decls_are = same_at (λ (d : HashedDecls). d.decls.items) new old n d d lt there copies.decls_are ∙ bucket.decls_are;
      };
}

-- ---- one bucket after the other

pub none : (new : List HashedDecls) → new ≡ [] → AreCopies [] new
none new is = record { as_many = ap length is; hashes_are = ap (map (λ d. d.hashes.items)) is; decls_are = ap (map (λ d. d.decls.items)) is }

more : {X Y : Type 0} (k : X → Y) (xs ys : List X) (i : ℕ) (x y : X) → i < length xs → x ≡ get_or xs i x → k y ≡ k x → map k ys ≡ map k (take i xs) → map k (ys ++ y ∷ []) ≡ map k (take (i + 1) xs)
more k xs ys i x y lt is same so_far =
    let last = take_more xs i x lt in
    map-append k ys (y ∷ []) ∙ ap₂ (λ l z. l ++ z ∷ []) so_far (same ∙ ap k is) ∙ sym (map-append k (take i xs) (get_or xs i x ∷ [])) ∙ ap (map k) (sym last)

pub one_more : (old new after : List HashedDecls) (i : ℕ) (d e : HashedDecls) → i < length old → d ≡ get_or old i d → e.hashes.items ≡ d.hashes.items → e.decls.items ≡ d.decls.items
    → AreCopies (take i old) new → after ≡ new ++ e ∷ [] → AreCopies (take (i + 1) old) after
one_more old new after i d e lt is hashes decls so_far after_is = record {
  as_many = ap length after_is ∙ length-append new (e ∷ []) ∙ ap (λ n. n + 1) so_far.as_many ∙ (let left = length-take-le i old in let right = length-take-le (i + 1) old in omega (arith, left, right, lt));
  hashes_are = ap (map (λ d. d.hashes.items)) after_is ∙ more (λ d. d.hashes.items) old new i d e lt is hashes so_far.hashes_are;
  decls_are = ap (map (λ d. d.decls.items)) after_is ∙ more (λ d. d.decls.items) old new i d e lt is decls so_far.decls_are;
}
