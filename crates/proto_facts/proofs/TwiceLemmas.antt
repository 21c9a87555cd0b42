-- Names whose hashes differ are not the same.
use Rattle.std.proofs.Common.{◌≡◌, Bool, true, false, ◌&&◌, ◌||◌, ℕ, zero, suc, ◌+◌, ◌<◌, ◌≤◌, List, [], ◌∷◌, Option, None, length, map, take, drop, get_or, refl, sym, ap, ◌∙◌, arith, ⊎_elim, true≢false}
use Rattle.std.specs.Prelude.{nat_lt, IsTrue}
use Rattle.std.specs.List.{list_any, filter_map, enumerate_from, IsAllAdjacentAnswer, AllByRecursion}
use Rattle.std.specs.List.Sorted.{IsPermutation}
use Rattle.std.specs.Str.{bytes_eq}
use Rattle.std.specs.Ordering.{eq_by_cmp, nat_cmp}
use Rattle.std.specs.declared.cmp.Ordering.TheVariants.{Less}
use Rattle.std.specs.Cmp.{nat_cmp_is}
use Rattle.std.proofs.lemmas.Cmp.{nat_cmp_total, eq_by_cmp_equiv}
use Rattle.std.proofs.lemmas.Slice.Eq.{bytes_eq-Decides}
use Rattle.std.proofs.lemmas.Bool.{cases_Bool}
use Rattle.std.proofs.lemmas.Bool.Decides.{Decides-ltb}
use Rattle.std.proofs.lemmas.Map.Keys.{sorted_from_all_adjacent, IsDistinct-from_sorted, IsDistinct-IsPermutation, IsDistinct-head, IsDistinct-tail}
use Rattle.std.proofs.lemmas.List.Sorted.{IsPermutation-sym}
use Rattle.proto_decls.specs.declared.diagnostic.Diag.{Diag}
use Rattle.proto_decls.specs.Checks.{judged, judged_at}
use Rattle.proto_decls.specs.FullNames.{hash_of, last_of, scope_of}
use Rattle.proto_decls.proofs.ApartNames.{same_parts}
use Rattle.proto_facts.specs.Twice.{AreDistinct}
use Rattle.proto_facts.proofs.Places.{diags-next, judged-end}

-- numbers that ascend once they are sorted
pub distinct-from-sorted : (xs ys : List ℕ) (r : Bool) → IsPermutation xs ys → IsAllAdjacentAnswer (λ x y b. b ≡ nat_lt x y) ys r → IsTrue r → AreDistinct xs
distinct-from-sorted xs ys false same ascends rises = absurd (true≢false (sym rises))
distinct-from-sorted xs ys true same ascends rises =
    IsDistinct-IsPermutation (eq_by_cmp nat_cmp) (eq_by_cmp_equiv nat_cmp_total).symm ys xs (IsPermutation-sym xs ys same)
    (IsDistinct-from_sorted nat_cmp ys (sorted_from_all_adjacent nat_cmp_total ys 0 (λ k lt. sym (nat_cmp_is _ _ Less ((Decides-ltb _ _).0 (sym (ascends k 0 lt)))))))

apart : (a b : List ℕ) → eq_by_cmp nat_cmp (hash_of a) (hash_of b) ≡ false → bytes_eq a b ≡ false
apart a b differ =
    ⊎_elim
    (λ y. absurd (true≢false (sym ((eq_by_cmp_equiv nat_cmp_total).refl (hash_of a)) ∙ ap (λ n. eq_by_cmp nat_cmp (hash_of a) (hash_of n)) ((bytes_eq-Decides a b).0 y) ∙ differ)))
    (λ n. n)
    (cases_Bool (bytes_eq a b))

-- names are the same where their hashes and both parts are
pub same_hashed : (a b : List ℕ) → ((eq_by_cmp nat_cmp (hash_of a) (hash_of b) && bytes_eq (last_of a) (last_of b)) && bytes_eq (scope_of a) (scope_of b)) ≡ bytes_eq a b
same_hashed a b =
    let parts = λ (h : Bool). (h && bytes_eq (last_of a) (last_of b)) && bytes_eq (scope_of a) (scope_of b) in
    ⊎_elim
    (λ same. ap parts same ∙ same_parts a b)
    (λ differ. ap parts differ ∙ sym (apart a b differ))
    (cases_Bool (eq_by_cmp nat_cmp (hash_of a) (hash_of b)))

at-place : {X : Type 0} (P : ℕ → Type 0) (f : X → ℕ) (xs : List X) (k : ℕ) (d : X) → k < length xs → AllByRecursion P (map f xs) → P (f (get_or xs k d))
at-place P f [] k d lt all = absurd (omega arith)
at-place P f (x ∷ xs) zero d lt all = all.0
at-place P f (x ∷ xs) (suc k) d lt all = at-place P f xs k d (omega arith) all.1

-- where the hashes differ, none of those before has the name
none-before : {X : Type 0} (name : X → List ℕ) (xs : List X) (k : ℕ) (d : X) → k < length xs → AreDistinct (map (λ x. hash_of (name x)) xs)
    → list_any (λ e. bytes_eq (name e) (name (get_or xs k d))) (take k xs) ≡ false
none-before name [] k d lt differ = absurd (omega arith)
none-before name (x ∷ xs) zero d lt differ = refl
none-before name (x ∷ xs) (suc k) d lt differ =
    let here = get_or xs k d in
    let head = IsDistinct-head (eq_by_cmp nat_cmp) (hash_of (name x)) (map (λ y. hash_of (name y)) xs) differ in
    let first : bytes_eq (name x) (name here) ≡ false = apart (name x) (name here) (at-place (λ h. eq_by_cmp nat_cmp (hash_of (name x)) h ≡ false) (λ y. hash_of (name y)) xs k d (omega arith) head) in
    ap (λ b. b || list_any (λ e. bytes_eq (name e) (name here)) (take k xs)) first
    ∙ none-before name xs k d (omega arith) (IsDistinct-tail (eq_by_cmp nat_cmp) (hash_of (name x)) (map (λ y. hash_of (name y)) xs) differ)

-- nothing is reported where nothing is wrong at each place
module _ {X : Type 0} (judge : List X → X → Option Diag) where
  so-far : (xs : List X) (d : X) → ((k : ℕ) → k < length xs → judge (take k xs) (get_or xs k d) ≡ None) → (i : ℕ) → i ≤ length xs
      → filter_map (judged_at judge xs) (drop i (enumerate_from 0 xs)) ≡ judged judge xs
  so-far xs d right zero le = refl
  so-far xs d right (suc i) le =
      let next : i + 1 ≡ suc i = omega arith in
      ap (λ n. filter_map (judged_at judge xs) (drop n (enumerate_from 0 xs))) (sym next)
      ∙ diags-next judge xs i d [] (judged judge xs) [] None (omega arith) (so-far xs d right i (omega arith)) refl (sym (right i (omega arith)))

  pub judged-none : (xs : List X) → ((k : ℕ) (d : X) → k < length xs → judge (take k xs) (get_or xs k d) ≡ None) → judged judge xs ≡ []
  judged-none [] right = refl
  judged-none (x ∷ xs) right =
      let all = x ∷ xs in
      sym (judged-end judge all (length all) [] (judged judge all) (omega arith) (so-far all x (λ k lt. right k x lt) (length all) (omega arith)))

  -- nor where the hashes of the names differ, and only a name that stands before is wrong
  pub none-twice : (name : X → List ℕ) (xs : List X) → AreDistinct (map (λ x. hash_of (name x)) xs)
      → ((before : List X) (x : X) → list_any (λ e. bytes_eq (name e) (name x)) before ≡ false → judge before x ≡ None) → judged judge xs ≡ []
  none-twice name xs differ right = judged-none xs (λ k d lt. right (take k xs) (get_or xs k d) (none-before name xs k d lt differ))
