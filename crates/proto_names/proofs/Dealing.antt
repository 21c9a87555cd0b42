-- Entries dealt into lists, one for each bucket.
use Rattle.std.proofs.Common.{◌≡◌, ◌∙◌, sym, ap, ap₂, subst, refl, inl, inr, suc, zero, ◌<◌, ◌%◌, ℕ, List, [], ◌∷◌, ◌++◌, append_assoc, append-nil, true, false, map, filter, length, get_or, set, arith}
use Rattle.std.specs.Prelude.{All}
use Rattle.std.specs.List.Sorted.{IsPermutation, IsSorted}
use Rattle.std.specs.declared.cmp.Ordering.{Ordering}
use Rattle.std.proofs.lemmas.Bool.{cases_eq, cases_lt}
use Rattle.std.proofs.lemmas.Bool.Decides.{nat_tests}
use Rattle.std.proofs.lemmas.List.{get_or_append_left, get_or-map, get_or_push, get_or-set_other, get_or-set_same, length-map, length_push, length-set, map-set}
use Rattle.std.proofs.lemmas.List.Elements.{All-head, All-tail, filter-append}
use Rattle.proto_names.specs.declared.hashed.HashedDecl.{HashedDecl}
use Rattle.proto_names.specs.declared.hashed.HashedDecls.{HashedDecls}
use Rattle.proto_names.specs.Buckets.{is_in, AreAllInOrder, AreDealt, AreInBuckets}
use Rattle.proto_names.specs.Entries.{all_entries, entries_of}
use Rattle.proto_names.specs.Tables.{AreInOrder}
use Rattle.proto_names.proofs.Entries.{next_entries}
use Rattle.proto_names.proofs.Same.{same_moved}

-- entries sorted, and then standing as two lists
pub placed : (order : HashedDecl → HashedDecl → Ordering) (entries sorted : List HashedDecl) (found : HashedDecls) → IsPermutation entries sorted → IsSorted order sorted
    → found.hashes.items ≡ map (λ k. k.hash) sorted → found.decls.items ≡ map (λ k. k.decl) sorted → AreInOrder order entries found
placed order entries sorted found moved ordered hashes decls = record {
  sorted = sorted;
  same = λ p. same_moved entries sorted moved p;
  ordered = ordered;
  hashes_are = hashes;
  decls_are = decls;
}

-- ---- dealing

hits : (count n : ℕ) (k : HashedDecl) → k.hash % count ≡ n → is_in count n k ≡ true
hits count n k e = grind (arith, nat_tests)

misses : (count n : ℕ) (k : HashedDecl) → (k.hash % count ≡ n → ⊥) → is_in count n k ≡ false
misses count n k other = grind (arith, nat_tests)

-- one entry, at the end of its list
one_dealt : (lists : List (List HashedDecl)) (k : HashedDecl) (number : ℕ) → number ≡ k.hash % length lists → number < length lists
    → AreDealt (k ∷ []) lists (set lists number (get_or lists number [] ++ k ∷ []))
one_dealt lists k number place within = record {
  as_many = length-set lists number (get_or lists number [] ++ k ∷ []);
  each = λ n inside. elim (cases_eq n number) [
    | inl here ↦
        let hit : is_in (length lists) n k ≡ true = hits (length lists) n k (sym place ∙ sym here) in
        rw (hit, here) (get_or-set_same lists number (get_or lists number [] ++ k ∷ []) [] within)
    | inr other ↦
        let miss : is_in (length lists) n k ≡ false = misses (length lists) n k (λ e. other (sym e ∙ sym place)) in
        rw miss (get_or-set_other lists number n (get_or lists number [] ++ k ∷ []) [] other ∙ sym (append-nil (get_or lists n [])))
  ];
}

-- the same of the vectors that hold them
pub one_pushed : {V : Type 0} (items : V → List HashedDecl) (lists : List V) (k : HashedDecl) (number : ℕ) (at new : V)
    → number ≡ k.hash % length lists → number < length lists → at ≡ get_or lists number at → items new ≡ items at ++ k ∷ []
    → AreDealt (k ∷ []) (map items lists) (map items (set lists number new))
one_pushed items lists k number at new place within there pushed =
    let long : length (map items lists) ≡ length lists = length-map lists items in
    let inside : number < length (map items lists) = omega (arith, within, long) in
    let before : get_or (map items lists) number [] ≡ items at = get_or-map items lists number at [] within ∙ ap items (sym there) in
    rw (map-set, pushed, ← before) (one_dealt (map items lists) k number (place ∙ ap (λ m. k.hash % m) (sym long)) inside)

-- the ones, then the others
pub both_dealt : (first more : List HashedDecl) (old mid new : List (List HashedDecl)) → AreDealt first old mid → AreDealt more mid new → AreDealt (first ++ more) old new
both_dealt first more old mid new before after = record {
  as_many = after.as_many ∙ before.as_many;
  each = λ n inside.
      let kept : List HashedDecl = filter (is_in (length old) n) more in
      after.each n (omega (arith, inside, before.as_many))
      ∙ ap₂ (λ (es : List HashedDecl) (count : ℕ). es ++ filter (is_in count n) more) (before.each n inside) before.as_many
      ∙ append_assoc (get_or old n []) (filter (is_in (length old) n) first) kept
      ∙ ap (λ (es : List HashedDecl). get_or old n [] ++ es) (sym (filter-append (is_in (length old) n) first more));
}

-- of empty lists each is empty
pub all_empty : {V : Type 0} (items : V → List HashedDecl) (lists : List V) → All (λ list. items list ≡ []) lists → (n : ℕ) → get_or (map items lists) n [] ≡ []
all_empty items [] empty n = refl
all_empty items (list ∷ lists) empty zero = All-head (λ list. items list ≡ []) list lists empty
all_empty items (list ∷ lists) empty (suc n) = all_empty items lists (All-tail (λ list. items list ≡ []) list lists empty) n

-- where all lists were empty, each has the entries that belong to its bucket
pub dealt_alone : {V : Type 0} (items : V → List HashedDecl) (entries : List HashedDecl) (old : List V) (new : List (List HashedDecl)) (count : ℕ) → All (λ list. items list ≡ []) old
    → length old ≡ count → AreDealt entries (map items old) new → (n : ℕ) → n < count → get_or new n [] ≡ filter (is_in count n) entries
dealt_alone items entries old new count empty many dealt n inside =
    let long : length (map items old) ≡ count = length-map old items ∙ many in
    dealt.each n (omega (arith, inside, long)) ∙ ap₂ (λ (es : List HashedDecl) (m : ℕ). es ++ filter (is_in m n) entries) (all_empty items old empty n) long

-- those of one file more
pub file_dealt : (done : List (List ℕ)) (hashes : List ℕ) (file : ℕ) (old mid new : List (List HashedDecl)) → file ≡ length done → AreDealt (all_entries done) old mid
    → AreDealt (entries_of file hashes) mid new → AreDealt (all_entries (done ++ hashes ∷ [])) old new
file_dealt done hashes file old mid new place before after =
    rw (next_entries done hashes, ← place) (both_dealt (all_entries done) (entries_of file hashes) old mid new before after)

-- ---- each list in order

-- each bucket has the entries of its list, in order, also with one more list and its bucket
pub one_in_order : (order : HashedDecl → HashedDecl → Ordering) (lists : List (List HashedDecl)) (found : List HashedDecls) (entries : List HashedDecl) (bucket : HashedDecls)
    → AreAllInOrder order lists found → AreInOrder order entries bucket → AreAllInOrder order (lists ++ entries ∷ []) (found ++ bucket ∷ [])
one_in_order order lists found entries bucket are one = record {
  as_many = omega (arith, are.as_many, length_push lists entries, length_push found bucket);
  each = λ n d lt. elim (cases_lt n (length lists)) [
    | inl before ↦
        let inside : n < length found = omega (arith, before, are.as_many) in
        rw (get_or_append_left lists (entries ∷ []) [] n before, get_or_append_left found (bucket ∷ []) d n inside) (are.each n d before)
    | inr from ↦
        let place : length lists ≡ n = omega (arith, from, lt, length_push lists entries) in
        rw (get_or_push lists entries [] n place, get_or_push found bucket d n (are.as_many ∙ place)) one
  ];
}

-- where each list has the entries that belong to its bucket
pub in_buckets : (order : HashedDecl → HashedDecl → Ordering) (entries : List HashedDecl) (lists : List (List HashedDecl)) (found : List HashedDecls) (count : ℕ) → 0 < count → length lists ≡ count
    → ((n : ℕ) → n < count → get_or lists n [] ≡ filter (is_in count n) entries) → AreAllInOrder order lists found → AreInBuckets order entries found
in_buckets order entries lists found count some many belong are =
    let long : length found ≡ count = are.as_many ∙ many in
    record {
      some = omega (arith, some, long);
      each = λ n d lt.
          let here : n < length lists = omega (arith, lt, long, many) in
          let inside : n < count = omega (arith, lt, long) in
          subst (λ es. AreInOrder order es (get_or found n d)) (belong n inside ∙ ap (λ m. filter (is_in m n) entries) (sym long)) (are.each n d here);
    }
