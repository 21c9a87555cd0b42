-- What the buckets of files have.
use Rattle.std.proofs.Common.{◌≡◌, ◌∙◌, sym, ap, subst, refl, inl, inr, ◌&&◌, ◌==◌, ◌<◌, ◌%◌, ℕ, List, Bool, true, false, map, filter, get_or, length, bytes_eq, arith}
use Rattle.std.specs.Prelude.{AllPairs}
use Rattle.std.specs.List.{list_any}
use Rattle.std.specs.declared.cmp.Ordering.{Ordering}
use Rattle.std.proofs.Math.Path.{fun_ext}
use Rattle.std.proofs.lemmas.Bool.{cases_Bool}
use Rattle.std.proofs.lemmas.Bool.Decides.{nat_tests}
use Rattle.std.proofs.lemmas.Slice.Eq.{bytes_eq-Decides}
use Rattle.proto_decls.specs.Text.{joined}
use Rattle.proto_decls.specs.declared.named_facts.NamedFacts.{NamedFacts}
use Rattle.proto_names.specs.declared.hashed.HashedDecl.{HashedDecl}
use Rattle.proto_names.specs.declared.hashed.HashedDecls.{HashedDecls}
use Rattle.proto_names.specs.declared.decl_ref.DeclRef.{DeclRef}
use Rattle.proto_names.specs.Buckets.{is_in, AreInBuckets}
use Rattle.proto_names.specs.Files.{all_decls, all_named, decl_at, name_at}
use Rattle.proto_names.specs.Hashed.{hashed, AreByHash}
use Rattle.proto_decls.specs.FullNames.{hash_of, has_dot, last_of}
use Rattle.proto_names.specs.Holders.{is_held, is_holder}
use Rattle.proto_names.specs.Tables.{by_name, by_scope, holder_entries, name_entries, stands_in, AreInOrder, AreRearranged, IsByScope}
use Rattle.proto_names.proofs.ByLast.{any_kept, both_parts, holders_by_last, of_last, AreByLast}
use Rattle.proto_names.proofs.Hashes.{keeps_mapped}
use Rattle.proto_names.proofs.Places.{named_up, names_by_hash, names_each, AtMost}
use Rattle.proto_names.proofs.Same.{kept_twice, same_kept}

remainder_there : (a b : ℕ) → a ≡ b → (a == b) ≡ true
remainder_there a b e = grind (arith, nat_tests)

first_holds : (a b : Bool) → (a && b) ≡ true → a ≡ true
first_holds true b e = refl
first_holds false b e = e

and_true : (a : Bool) → (a && true) ≡ a
and_true true = refl
and_true false = refl

-- what passes the one test passes the other
kept_once : {X : Type 0} (p q : X → Bool) → ((x : X) → p x ≡ true → q x ≡ true) → (xs : List X) → filter p (filter q xs) ≡ filter p xs
kept_once p q both xs = kept_twice p q xs ∙ ap (λ test. filter test xs) (fun_ext (λ x. elim (cases_Bool (p x)) [
  | inl passes ↦ rw (passes, both x passes) refl
  | inr fails ↦ rw fails (elim (cases_Bool (q x)) [
    | inl holds ↦ rw holds refl
    | inr other ↦ rw other refl
  ])
]))

-- in another order of the entries they are the same buckets
pub buckets_moved : (order : HashedDecl → HashedDecl → Ordering) (es fs : List HashedDecl) (buckets : List HashedDecls) → AreRearranged fs es → AreInBuckets order es buckets → AreInBuckets order fs buckets
buckets_moved order es fs buckets moved are = record {
  some = are.some;
  each = λ n d lt.
      let here : AreInOrder order (filter (is_in (length buckets) n) es) (get_or buckets n d) = are.each n d lt in
      record {
        sorted = here.sorted;
        same = λ p. same_kept fs es moved (is_in (length buckets) n) p ∙ here.same p;
        ordered = here.ordered;
        hashes_are = here.hashes_are;
        decls_are = here.decls_are;
      };
}

-- ---- by full name

module _ (files : List NamedFacts) (buckets : List HashedDecls) (are : AreInBuckets (by_name (name_at files)) (name_entries files) buckets) (text : List ℕ) (d : HashedDecls) (lt : hash_of text % length buckets < length buckets) where
  abbrev belongs : DeclRef → Bool
  belongs r = is_in (length buckets) (hash_of text % length buckets) (hashed (name_at files) r)

  abbrev bucket : HashedDecls
  bucket = get_or buckets (hash_of text % length buckets) d

  names_here : AreInOrder (by_name (name_at files)) (map (hashed (name_at files)) (filter belongs (all_decls files))) bucket
  names_here =
      subst (λ es. AreInOrder (by_name (name_at files)) es bucket) (keeps_mapped (is_in (length buckets) (hash_of text % length buckets)) (hashed (name_at files)) (all_decls files))
      (are.each (hash_of text % length buckets) d lt)

  pub bucket_by_hash : AreByHash (name_at files) bucket.hashes.items bucket.decls.items
  bucket_by_hash = names_by_hash (name_at files) (filter belongs (all_decls files)) bucket names_here

  named_belongs : (r : DeclRef) → bytes_eq (name_at files r) text ≡ true → belongs r ≡ true
  named_belongs r e = remainder_there (hash_of (name_at files r) % length buckets) (hash_of text % length buckets) (ap (λ t. hash_of t % length buckets) ((bytes_eq-Decides (name_at files r) text).0 e))

  pub bucket_named : filter (λ r. bytes_eq (name_at files r) text) bucket.decls.items ≡ all_named files text
  bucket_named =
      let once : filter (λ r. bytes_eq (name_at files r) text) (filter belongs (all_decls files)) ≡ all_named files text = kept_once (λ r. bytes_eq (name_at files r) text) belongs named_belongs (all_decls files) in
      names_each (name_at files) (filter belongs (all_decls files)) bucket names_here text (subst (AllPairs AtMost) (sym once) (named_up files text)) ∙ once

-- ---- by last component

module _ (files : List NamedFacts) (buckets : List HashedDecls) (are : AreInBuckets (by_scope (name_at files)) (holder_entries files) buckets) (last : List ℕ) (plain : has_dot last ≡ false) (d : HashedDecls) (lt : hash_of last % length buckets < length buckets) where
  abbrev holds : DeclRef → Bool
  holds r = is_holder (let e = decl_at files r in e.kind)

  abbrev last_at : DeclRef → List ℕ
  last_at r = last_of (name_at files r)

  abbrev last_belongs : DeclRef → Bool
  last_belongs r = is_in (length buckets) (hash_of last % length buckets) (hashed last_at r)

  abbrev of_hash : HashedDecls
  of_hash = get_or buckets (hash_of last % length buckets) d

  by_last : AreByLast (name_at files) (λ n. list_any (λ r. bytes_eq (name_at files r) n && (holds r && last_belongs r)) (all_decls files)) of_hash.hashes.items of_hash.decls.items
  by_last =
      holders_by_last (name_at files) (λ r. holds r && last_belongs r) (all_decls files) of_hash
      (subst (λ es. AreInOrder (by_scope (name_at files)) es of_hash)
      (keeps_mapped (is_in (length buckets) (hash_of last % length buckets)) (hashed last_at) (filter holds (all_decls files))
      ∙ ap (map (hashed last_at)) (kept_twice last_belongs holds (all_decls files)))
      (are.each (hash_of last % length buckets) d lt))

  pub last_by_hash : AreByHash last_at of_hash.hashes.items of_hash.decls.items
  last_by_hash = by_last.hashed

  pub last_ordered : IsByScope (name_at files) (of_last (name_at files) of_hash.decls.items last)
  last_ordered = by_last.ordered last

  there_too : (scope : List ℕ) (r : DeclRef) → (bytes_eq (name_at files r) (joined scope last) && (holds r && last_belongs r)) ≡ (bytes_eq (name_at files r) (joined scope last) && holds r)
  there_too scope r = elim (cases_Bool (bytes_eq (name_at files r) (joined scope last))) [
    | inl named ↦
        let is : last_at r ≡ last = (bytes_eq-Decides (last_at r) last).0 (first_holds (bytes_eq (last_at r) last) _ (both_parts (name_at files) scope last plain (name_at files r) ∙ named)) in
        let belongs : last_belongs r ≡ true = remainder_there (hash_of (last_at r) % length buckets) (hash_of last % length buckets) (ap (λ t. hash_of t % length buckets) is) in
        rw (named, belongs) (and_true (holds r))
    | inr other ↦ rw other refl
  ]

  pub last_held : (scope : List ℕ) → stands_in (name_at files) (of_last (name_at files) of_hash.decls.items last) scope ≡ is_held files (joined scope last)
  last_held scope =
      by_last.all scope last plain
      ∙ ap (λ (test : DeclRef → Bool). list_any test (all_decls files)) (fun_ext (there_too scope))
      ∙ sym (any_kept (λ r. bytes_eq (name_at files r) (joined scope last)) holds (all_decls files))
