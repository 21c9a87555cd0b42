-- Declarations by the last components of their names.
use Rattle.std.proofs.Common.{◌≡◌, ◌∙◌, sym, ap, ap₂, subst, refl, inl, inr, ◌&&◌, ◌==◌, ◌<◌, ◌+◌, ℕ, List, [], ◌∷◌, Bool, true, false, not, map, filter, get_or, length, bytes_eq, arith}
use Rattle.std.specs.Prelude.{All}
use Rattle.std.specs.List.{list_any}
use Rattle.std.specs.List.Sorted.{IsSorted, IsSortedBy}
use Rattle.std.specs.Cmp.{IsTotalOrder}
use Rattle.std.specs.Cmp.Lexicographic.{slice_cmp}
use Rattle.std.specs.Ordering.{is_lt, nat_cmp, ordering_then}
use Rattle.std.specs.declared.cmp.Ordering.{Ordering}
use Rattle.std.specs.declared.cmp.Ordering.TheVariants.{Less, Equal, Greater}
use Rattle.std.proofs.Math.Path.{fun_ext}
use Rattle.std.proofs.lemmas.Bool.{cases_Bool}
use Rattle.std.proofs.lemmas.Cmp.{nat_list_cmp_total, on_total, then_total, tied_itself}
use Rattle.std.proofs.lemmas.List.{get_or-map, length-map}
use Rattle.std.proofs.lemmas.List.Elements.{All-cons, All-head, All-tail, filter_passes}
use Rattle.std.proofs.lemmas.List.Kept.{IsSortedBy-filter}
use Rattle.std.proofs.lemmas.List.Sorted.{ranks_by}
use Rattle.std.proofs.lemmas.Slice.Eq.{bytes_eq-Decides}
use Rattle.proto_decls.specs.Text.{joined}
use Rattle.proto_names.specs.declared.hashed.HashedDecl.{HashedDecl}
use Rattle.proto_names.specs.declared.hashed.HashedDecls.{HashedDecls}
use Rattle.proto_names.specs.declared.decl_ref.DeclRef.{DeclRef}
use Rattle.proto_names.specs.Hashed.{hashed, AreByHash}
use Rattle.proto_decls.specs.FullNames.{hash_of, has_dot, last_of, scope_of}
use Rattle.proto_names.specs.Tables.{by_scope, stands_in, AreInOrder, IsByScope}
use Rattle.proto_names.proofs.Hashes.{all_fit, decls_back, is_before, keeps_mapped, put_fitting, Fits}
use Rattle.proto_decls.proofs.LastParts.{parts_of_any}
use Rattle.proto_names.proofs.Same.{fits_so, fitting, same_all, same_any, same_mapped}

-- the declarations of one last component
abbrev pub of_last : (DeclRef → List ℕ) → List DeclRef → List ℕ → List DeclRef
of_last name decls last = filter (λ r. bytes_eq (last_of (name r)) last) decls

-- declarations by their last components, those of one last component by their scopes; one of a full name is among them exactly if that
-- name passes the test
pub record AreByLast (name : DeclRef → List ℕ) (test : List ℕ → Bool) (hashes : List ℕ) (decls : List DeclRef) : Type 0 where
  pub hashed : AreByHash (λ r. last_of (name r)) hashes decls
  pub all : (scope last : List ℕ) → has_dot last ≡ false → stands_in name (of_last name decls last) scope ≡ test (joined scope last)
  pub ordered : (last : List ℕ) → IsByScope name (of_last name decls last)

pub any_kept : {X : Type 0} (p g : X → Bool) (xs : List X) → list_any g (filter p xs) ≡ list_any (λ x. p x && g x) xs
any_kept p g [] = refl
any_kept p g (x ∷ xs) = elim (cases_Bool (p x)) [
  | inl passes ↦ rw (passes, any_kept p g xs) refl
  | inr fails ↦ rw (fails, any_kept p g xs) refl
]

pub keeps_fits : {X : Type 0} (P : X → Type 0) (p : X → Bool) (xs : List X) → All P xs → All P (filter p xs)
keeps_fits P p [] all = all
keeps_fits P p (x ∷ xs) all = elim (cases_Bool (p x)) [
  | inl passes ↦ rw passes (All-cons P x (filter p xs) (All-head P x xs all) (keeps_fits P p xs (All-tail P x xs all)))
  | inr fails ↦ rw fails (keeps_fits P p xs (All-tail P x xs all))
]

-- ---- in the order of two tests

pub first_of_two : (o p : Ordering) → is_lt (ordering_then o p) ≡ false → is_lt o ≡ false
first_of_two Less p e = absurd (cc (e))
first_of_two Equal p e = refl
first_of_two Greater p e = refl

pub second_of_two : (o p : Ordering) → o ≡ Equal → is_lt (ordering_then o p) ≡ false → is_lt p ≡ false
second_of_two Less p tied e = absurd (cc (tied))
second_of_two Equal p tied e = e
second_of_two Greater p tied e = absurd (cc (tied))

module _ (name : DeclRef → List ℕ) where
  abbrev last_at : DeclRef → List ℕ
  last_at r = last_of (name r)

  pub scopes_total : IsTotalOrder (by_scope name)
  scopes_total = then_total (on_total (λ (k : HashedDecl). k.hash ∷ last_at k.decl) nat_list_cmp_total) (on_total (λ (k : HashedDecl). scope_of (name k.decl)) nat_list_cmp_total)

  abbrev goes_before : HashedDecl → HashedDecl → Bool
  goes_before a b = is_lt (by_scope name a b)

  by_last_first : (gs : List HashedDecl) → IsSorted (by_scope name) gs → IsSortedBy (is_before last_at) gs
  by_last_first gs sorted k d from lt =
      let a = get_or gs (k + 1) d in
      let b = get_or gs k d in
      first_of_two (slice_cmp nat_cmp (a.hash ∷ last_at a.decl) (b.hash ∷ last_at b.decl)) (slice_cmp nat_cmp (scope_of (name a.decl)) (scope_of (name b.decl))) (sorted k d from lt)

  module _ (gs : List HashedDecl) (sorted : IsSorted (by_scope name) gs) (fits : All (Fits (λ (k : HashedDecl). k.hash) (λ k. k.decl) last_at) gs) (q : List ℕ) where
    abbrev has_it : HashedDecl → Bool
    has_it k = bytes_eq (last_at k.decl) q

    kept : List HashedDecl
    kept = filter has_it gs

    kept_sorted : IsSortedBy goes_before (filter has_it gs)
    kept_sorted = IsSortedBy-filter goes_before (ranks_by scopes_total (λ k. k)) has_it gs sorted

    itself : (k : ℕ) (d : HashedDecl) → k < length (filter has_it gs) → last_at (let h = get_or (filter has_it gs) k d in h.decl) ≡ q
    itself k d lt = (bytes_eq-Decides (last_at (let h = get_or (filter has_it gs) k d in h.decl)) q).0 (filter_passes has_it gs k d lt)

    hashed_so : (k : ℕ) (d : HashedDecl) → k < length (filter has_it gs) → (let h = get_or (filter has_it gs) k d in h.hash) ≡ hash_of q
    hashed_so k d lt = keeps_fits (Fits (λ (k : HashedDecl). k.hash) (λ k. k.decl) last_at) has_it gs fits k d lt ∙ ap hash_of (itself k d lt)

    neighbours : (k : ℕ) (d : HashedDecl) → k + 1 < length (filter has_it gs)
        → is_lt (slice_cmp nat_cmp (scope_of (name (let h = get_or (filter has_it gs) (k + 1) d in h.decl))) (scope_of (name (let h = get_or (filter has_it gs) k d in h.decl)))) ≡ false
    neighbours k d lt =
        let a = get_or (filter has_it gs) (k + 1) d in
        let b = get_or (filter has_it gs) k d in
        let first : last_at a.decl ≡ q = itself (k + 1) d lt in
        let second : last_at b.decl ≡ q = itself k d (omega (arith, lt)) in
        let equal : a.hash ∷ last_at a.decl ≡ b.hash ∷ last_at b.decl =
        ap₂ (λ (h : ℕ) (l : List ℕ). h ∷ l) (hashed_so (k + 1) d lt ∙ sym (hashed_so k d (omega (arith, lt)))) (first ∙ sym second) in
        let tied : slice_cmp nat_cmp (a.hash ∷ last_at a.decl) (b.hash ∷ last_at b.decl) ≡ Equal =
        ap (λ l. slice_cmp nat_cmp l (b.hash ∷ last_at b.decl)) equal ∙ tied_itself nat_list_cmp_total (b.hash ∷ last_at b.decl) in
        second_of_two (slice_cmp nat_cmp (a.hash ∷ last_at a.decl) (b.hash ∷ last_at b.decl)) (slice_cmp nat_cmp (scope_of (name a.decl)) (scope_of (name b.decl))) tied (kept_sorted k d (omega arith) lt)

    abbrev decl_of : HashedDecl → DeclRef
    decl_of k = k.decl

    abbrev AreNeighbours : List HashedDecl → Type 0
    AreNeighbours hs = (k : ℕ) (d : HashedDecl) → k + 1 < length hs
        → is_lt (slice_cmp nat_cmp (scope_of (name (decl_of (get_or hs (k + 1) d)))) (scope_of (name (decl_of (get_or hs k d))))) ≡ false

    into_decls : (hs : List HashedDecl) → AreNeighbours hs → IsByScope name (map decl_of hs)
    into_decls [] pairs k d from lt = absurd (omega (arith, lt))
    into_decls (h ∷ hs) pairs k d from lt =
        let long : k + 1 < length (h ∷ hs) = rw (length-map (h ∷ hs) decl_of) at lt in
        rw (get_or-map decl_of (h ∷ hs) k h d (omega (arith, long)), get_or-map decl_of (h ∷ hs) (k + 1) h d long) (pairs k h long)

    pub of_one_last : IsByScope name (of_last name (map decl_of gs) q)
    of_one_last = subst (IsByScope name) (sym (keeps_mapped (λ r. bytes_eq (last_at r) q) decl_of gs)) (into_decls (filter has_it gs) neighbours)

  -- ---- which there are

  pub both_parts : (s q : List ℕ) → has_dot q ≡ false → (n : List ℕ) → (bytes_eq (last_of n) q && bytes_eq (scope_of n) s) ≡ bytes_eq n (joined s q)
  both_parts s q plain n = (parts_of_any n).only s q plain

  other_way : (a b c : Bool) → b ≡ c → (a && b) ≡ (c && a)
  other_way true b true e = e
  other_way true b false e = e
  other_way false b true e = refl
  other_way false b false e = refl

  stands_alike : (holder : DeclRef → Bool) (decls ds : List DeclRef) → ((p : DeclRef → Bool) → length (filter p (filter holder decls)) ≡ length (filter p ds)) → (s q : List ℕ) → has_dot q ≡ false
      → stands_in name (of_last name ds q) s ≡ list_any (λ r. bytes_eq (name r) (joined s q) && holder r) decls
  stands_alike holder decls ds same s q plain =
      any_kept (λ r. bytes_eq (last_of (name r)) q) (λ r. bytes_eq (scope_of (name r)) s) ds
      ∙ sym (same_any (filter holder decls) ds same (λ r. bytes_eq (last_of (name r)) q && bytes_eq (scope_of (name r)) s))
      ∙ any_kept holder (λ r. bytes_eq (last_of (name r)) q && bytes_eq (scope_of (name r)) s) decls
      ∙ ap (λ (test : DeclRef → Bool). list_any test decls) (fun_ext (λ r. other_way (holder r) (bytes_eq (last_of (name r)) q && bytes_eq (scope_of (name r)) s) (bytes_eq (name r) (joined s q)) (both_parts s q plain (name r))))

  -- what may settle a scope, by the last components
  pub holders_by_last : (holder : DeclRef → Bool) (decls : List DeclRef) (found : HashedDecls) → AreInOrder (by_scope name) (map (hashed last_at) (filter holder decls)) found
      → AreByLast name (λ n. list_any (λ r. bytes_eq (name r) n && holder r) decls) found.hashes.items found.decls.items
  holders_by_last holder decls found are =
      let ds : List DeclRef = filter holder decls in
      let gs : List HashedDecl = are.sorted in
      let fits = same_all (Fits (λ (k : HashedDecl). k.hash) (λ k. k.decl) last_at) (λ k. not (k.hash == hash_of (last_at k.decl)))
      (λ k e. fitting k.hash (hash_of (last_at k.decl)) e) (λ k e. fits_so k.hash (hash_of (last_at k.decl)) e)
      (map (hashed last_at) ds) gs are.same (all_fit last_at ds) in
      let counts : (p : DeclRef → Bool) → length (filter p ds) ≡ length (filter p (map (λ (k : HashedDecl). k.decl) gs)) =
      λ p. sym (ap (λ es. length (filter p es)) (decls_back last_at ds)) ∙ same_mapped (λ (k : HashedDecl). k.decl) (map (hashed last_at) ds) gs are.same p in
      rw (are.hashes_are, are.decls_are) (record {
        hashed = put_fitting last_at gs fits (by_last_first gs are.ordered);
        all = λ s q plain. stands_alike holder decls (map (λ (k : HashedDecl). k.decl) gs) counts s q plain;
        ordered = λ q. of_one_last gs are.ordered fits q;
      })
