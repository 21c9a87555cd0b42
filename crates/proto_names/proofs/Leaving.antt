-- Entries in order of which one goes, or to which one comes, in their buckets.
use Rattle.std.proofs.Common.{◌≡◌, ◌≢◌, ◌∙◌, sym, ap, ap₂, subst, refl, inl, inr, ◌==◌, ◌&&◌, ◌<◌, ◌≤◌, ◌+◌, ◌%◌, ℕ, zero, suc, List, [], ◌∷◌, ◌++◌, append-nil, Bool, true, false, map, filter, take, drop, get_or, set, length, arith}
use Rattle.std.specs.Prelude.{All}
use Rattle.std.specs.Cmp.{IsStrictWeakOrder, IsTotalOrder}
use Rattle.std.specs.List.{insert, remove}
use Rattle.std.specs.List.Sorted.{IsSortedBy}
use Rattle.std.specs.Ordering.{is_lt}
use Rattle.std.specs.declared.cmp.Ordering.{Ordering}
use Rattle.std.proofs.lemmas.Bool.{cases_Bool, cases_eq, cases_lt}
use Rattle.std.proofs.lemmas.Bool.Decides.{nat_tests}
use Rattle.std.proofs.lemmas.List.{append_assoc, drop-map, take_more, get_or_push, get_or-set_other, get_or-set_same, length-map, length_push, length-set, map-append, take-map}
use Rattle.std.proofs.lemmas.List.Edits.{get_or-insert_above, get_or-insert_at, get_or-insert_below, get_or-remove_above, get_or-remove_below, length-insert, length-remove}
use Rattle.std.proofs.lemmas.List.Elements.{filter-append}
use Rattle.std.proofs.lemmas.List.Sorted.{ranks_by, sorted_far, IsPermutation-insert, IsPermutation-remove}
use Rattle.proto_names.specs.declared.hashed.HashedDecl.{HashedDecl}
use Rattle.proto_names.specs.declared.hashed.HashedDecls.{HashedDecls}
use Rattle.proto_names.specs.declared.decl_ref.DeclRef.{DeclRef}
use Rattle.proto_names.specs.Buckets.{is_in, AreInBuckets}
use Rattle.proto_names.specs.Replaced.{GoesBetween, StandIn}
use Rattle.proto_names.specs.Tables.{AreInOrder}
use Rattle.proto_names.proofs.Same.{counted_both, same_all, same_moved}

-- ---- one element in a sorted list

module _ {X : Type 0} (lt : X → X → Bool) (o : IsStrictWeakOrder lt) (xs : List X) (sorted : IsSortedBy lt xs) (place : ℕ) where
  behind_inserted : (one : X) → place ≤ length xs → (k : ℕ) (d : X) → place < k → k < length xs → lt (get_or xs k d) (get_or (insert xs place one) k d) ≡ false
  behind_inserted one within zero d later inside = absurd (omega (arith, later))
  behind_inserted one within (suc k) d later inside =
      let next : suc k ≡ k + 1 = omega arith in
      let from : place ≤ k = omega (arith, later) in
      rw (next, get_or-insert_above xs place one d k from within) (sorted k d (omega arith) (omega (arith, inside)))

  -- put between two that stand in order with it
  pub inserted_sorted : (one : X) → place ≤ length xs → ((n : ℕ) (d : X) → n + 1 ≡ place → lt one (get_or xs n d) ≡ false) → ((d : X) → place < length xs → lt (get_or xs place d) one ≡ false) → IsSortedBy lt (insert xs place one)
  inserted_sorted one within before behind k d from inside =
      let long : k + 1 < length xs + 1 = omega (arith, inside, length-insert xs place one within) in
      elim (cases_lt (k + 1) place) [
        | inl below ↦
            let first : k < place = omega (arith, below) in
            let here : k + 1 < length xs = omega (arith, below, within) in
            rw (get_or-insert_below xs place one d (k + 1) below within, get_or-insert_below xs place one d k first within) (sorted k d from here)
        | inr above ↦ elim (cases_eq (k + 1) place) [
          | inl at ↦
              let first : k < place = omega (arith, at) in
              let second : get_or (insert xs place one) (k + 1) d ≡ one = subst (λ i. get_or (insert xs place one) i d ≡ one) (sym at) (get_or-insert_at xs place one d within) in
              rw (second, get_or-insert_below xs place one d k first within) (before k d at)
          | inr behind_it ↦
              let later : place ≤ k = omega (arith, above, behind_it) in
              rw (get_or-insert_above xs place one d k later within) (elim (cases_eq place k) [
                | inl at ↦
                    let here : place < length xs = omega (arith, at, long) in
                    subst (λ i. lt (get_or xs i d) (get_or (insert xs place one) i d) ≡ false) at
                    (rw (get_or-insert_at xs place one d within) (behind d here))
                | inr other ↦ behind_inserted one within k d (omega (arith, later, other)) (omega (arith, long))
              ])
        ]
      ]

  pub removed_sorted : place < length xs → IsSortedBy lt (remove xs place)
  removed_sorted within k d from inside =
      let long : k + 2 < length xs = omega (arith, inside, length-remove xs place within) in
      let near : k + 1 < length xs = omega (arith, long) in
      let twice : k + 1 + 1 < length xs = omega (arith, long) in
      elim (cases_lt (k + 1) place) [
        | inl below ↦
            let first : k < place = omega (arith, below) in
            rw (get_or-remove_below xs place d (k + 1) below within, get_or-remove_below xs place d k first within) (sorted k d from near)
        | inr above ↦ rw (get_or-remove_above xs place d (k + 1) above within) (elim (cases_lt k place) [
          | inl first ↦ rw (get_or-remove_below xs place d k first within) (sorted_far lt o xs sorted k (k + 1 + 1) d (omega arith) twice)
          | inr later ↦ rw (get_or-remove_above xs place d k later within) (sorted (k + 1) d (omega arith) twice)
        ])
      ]

module _ {X Y : Type 0} (f : X → Y) (xs : List X) (place : ℕ) where
  map_removed : remove (map f xs) place ≡ map f (remove xs place)
  map_removed = ap₂ (λ (front back : List Y). front ++ back) (take-map f place xs) (drop-map f (suc place) xs) ∙ sym (map-append f (take place xs) (drop (suc place) xs))

  map_inserted : (one : X) → insert (map f xs) place (f one) ≡ map f (insert xs place one)
  map_inserted one = ap₂ (λ (front back : List Y). front ++ f one ∷ back) (take-map f place xs) (drop-map f place xs) ∙ sym (map-append f (take place xs) (one ∷ drop place xs))

-- ---- one entry

abbrev is_one : HashedDecl → HashedDecl → Bool
is_one a b = (a.hash == b.hash) && (((let r = a.decl in r.file) == (let r = b.decl in r.file)) && ((let r = a.decl in r.number) == (let r = b.decl in r.number)))

eq_so : (a b : ℕ) → (a == b) ≡ true → a ≡ b
eq_so a b e = grind (arith, nat_tests)

eq_itself : (a : ℕ) → (a == a) ≡ true
eq_itself a = grind (arith, nat_tests)

first_so : (a b : Bool) → (a && b) ≡ true → a ≡ true
first_so true b e = refl
first_so false b e = e

second_so : (a b : Bool) → (a && b) ≡ true → b ≡ true
second_so true b e = e
second_so false b e = absurd (cc (e))

is_same : (a b : HashedDecl) → is_one a b ≡ true → a ≡ b
is_same a b e =
    let hash : a.hash ≡ b.hash = eq_so a.hash b.hash (first_so (a.hash == b.hash) _ e) in
    let decl = second_so (a.hash == b.hash) _ e in
    let file : (let r = a.decl in r.file) ≡ (let r = b.decl in r.file) = eq_so (let r = a.decl in r.file) (let r = b.decl in r.file) (first_so ((let r = a.decl in r.file) == (let r = b.decl in r.file)) _ decl) in
    let number : (let r = a.decl in r.number) ≡ (let r = b.decl in r.number) = eq_so (let r = a.decl in r.number) (let r = b.decl in r.number) (second_so ((let r = a.decl in r.file) == (let r = b.decl in r.file)) _ decl) in
    ap₂ (λ (h : ℕ) (r : DeclRef). record { hash = h; decl = r }) hash (ap₂ (λ (f n : ℕ). record { file = f; number = n }) file number)

is_itself : (a : HashedDecl) → is_one a a ≡ true
is_itself a = rw (eq_itself a.hash, eq_itself (let r = a.decl in r.file), eq_itself (let r = a.decl in r.number)) refl

differs : (a b : HashedDecl) → is_one a b ≡ false → a ≢ b
differs a b e same = absurd (cc (e, subst (λ c. is_one a c ≡ true) same (is_itself a)))

is_another : (a b : HashedDecl) → a ≢ b → is_one a b ≡ false
is_another a b other = elim (cases_Bool (is_one a b)) [
  | inl same ↦ absurd (other (is_same a b same))
  | inr differ ↦ differ
]

-- ---- one bucket

-- it has as many hashes as declarations
pub in_both : (order : HashedDecl → HashedDecl → Ordering) (es : List HashedDecl) (bucket : HashedDecls) → AreInOrder order es bucket → length bucket.hashes.items ≡ length bucket.decls.items
in_both order es bucket are = ap length are.hashes_are ∙ length-map are.sorted (λ (k : HashedDecl). k.hash) ∙ sym (length-map are.sorted (λ (k : HashedDecl). k.decl)) ∙ sym (ap length are.decls_are)

module _ (order : HashedDecl → HashedDecl → Ordering) (total : IsTotalOrder order) (entries : List HashedDecl) (one : HashedDecl) (before after : HashedDecls) where
  pub must_stand : AreInOrder order (entries ++ one ∷ []) before → ((es : List HashedDecl) → StandIn es before → All (λ k. k ≢ one) es) → AreInOrder order entries after
  must_stand are none =
      let standing : StandIn are.sorted before = record { hashes_are = are.hashes_are; decls_are = are.decls_are } in
      let all : All (λ k. k ≢ one) (entries ++ one ∷ []) =
      same_all (λ k. k ≢ one) (λ k. is_one k one) (λ k e. differs k one e) (λ k other. is_another k one other) are.sorted (entries ++ one ∷ []) (λ q. sym (are.same q)) (none are.sorted standing) in
      absurd (all (length entries) one (omega (arith, length_push entries one)) (get_or_push entries one one (length entries) refl))

  pub taken_out : AreInOrder order (entries ++ one ∷ []) before → (place : ℕ) → place < length before.hashes.items → ((es : List HashedDecl) → StandIn es before → (d : HashedDecl) → get_or es place d ≡ one)
      → after.hashes.items ≡ remove before.hashes.items place → after.decls.items ≡ remove before.decls.items place → AreInOrder order entries after
  taken_out are place inside stands hashes decls =
      let standing : StandIn are.sorted before = record { hashes_are = are.hashes_are; decls_are = are.decls_are } in
      let within : place < length are.sorted = omega (arith, inside, ap length are.hashes_are, length-map are.sorted (λ (k : HashedDecl). k.hash)) in
      record {
        sorted = remove are.sorted place;
        same = λ p. omega (arith, are.same p, counted_both p entries (one ∷ []), counted_both p (one ∷ []) (remove are.sorted place), same_moved are.sorted (one ∷ remove are.sorted place) (IsPermutation-remove are.sorted place one within (sym (stands are.sorted standing one))) p);
        ordered = removed_sorted (λ a b. is_lt (order a b)) (ranks_by total (λ k. k)) are.sorted are.ordered place within;
        hashes_are = hashes ∙ ap (λ es. remove es place) are.hashes_are ∙ map_removed (λ (k : HashedDecl). k.hash) are.sorted place;
        decls_are = decls ∙ ap (λ es. remove es place) are.decls_are ∙ map_removed (λ (k : HashedDecl). k.decl) are.sorted place;
      }

  pub put_into : AreInOrder order entries before → (place : ℕ) → place ≤ length before.hashes.items → ((es : List HashedDecl) → StandIn es before → GoesBetween order one es place)
      → after.hashes.items ≡ insert before.hashes.items place one.hash → after.decls.items ≡ insert before.decls.items place one.decl → AreInOrder order (entries ++ one ∷ []) after
  put_into are place inside between hashes decls =
      let standing : StandIn are.sorted before = record { hashes_are = are.hashes_are; decls_are = are.decls_are } in
      let within : place ≤ length are.sorted = omega (arith, inside, ap length are.hashes_are, length-map are.sorted (λ (k : HashedDecl). k.hash)) in
      let goes = between are.sorted standing in
      let weak : IsStrictWeakOrder (λ a b. is_lt (order a b)) = ranks_by total (λ k. k) in
      record {
        sorted = insert are.sorted place one;
        same = λ p. omega (arith, are.same p, counted_both p entries (one ∷ []), counted_both p (one ∷ []) are.sorted, same_moved (one ∷ are.sorted) (insert are.sorted place one) (IsPermutation-insert are.sorted place one) p);
        ordered = inserted_sorted (λ a b. is_lt (order a b)) weak are.sorted are.ordered place one within goes.before (λ d lt. weak.one_way one (get_or are.sorted place d) (goes.behind d lt));
        hashes_are = hashes ∙ ap (λ es. insert es place one.hash) are.hashes_are ∙ map_inserted (λ (k : HashedDecl). k.hash) are.sorted place one;
        decls_are = decls ∙ ap (λ es. insert es place one.decl) are.decls_are ∙ map_inserted (λ (k : HashedDecl). k.decl) are.sorted place one;
      }

-- ---- all buckets

belongs : (count n : ℕ) (k : HashedDecl) → k.hash % count ≡ n → is_in count n k ≡ true
belongs count n k e = grind (arith, nat_tests)

stands_elsewhere : (count n : ℕ) (k : HashedDecl) → (k.hash % count ≡ n → ⊥) → is_in count n k ≡ false
stands_elsewhere count n k other = grind (arith, nat_tests)

module _ (es : List HashedDecl) (one : HashedDecl) (count n : ℕ) where
  in_its_bucket : one.hash % count ≡ n → filter (is_in count n) (es ++ one ∷ []) ≡ filter (is_in count n) es ++ one ∷ []
  in_its_bucket e =
      let there : filter (is_in count n) (one ∷ []) ≡ one ∷ [] = rw (belongs count n one e) refl in
      filter-append (is_in count n) es (one ∷ []) ∙ ap (λ (fs : List HashedDecl). filter (is_in count n) es ++ fs) there

  in_no_other : (one.hash % count ≡ n → ⊥) → filter (is_in count n) (es ++ one ∷ []) ≡ filter (is_in count n) es
  in_no_other other =
      let none : filter (is_in count n) (one ∷ []) ≡ [] = rw (stands_elsewhere count n one other) refl in
      filter-append (is_in count n) es (one ∷ []) ∙ ap (λ (fs : List HashedDecl). filter (is_in count n) es ++ fs) none ∙ append-nil (filter (is_in count n) es)

module _ (order : HashedDecl → HashedDecl → Ordering) (es : List HashedDecl) (one : HashedDecl) (buckets : List HashedDecls) (number : ℕ) (at : one.hash % length buckets ≡ number) (within : number < length buckets) (was next : HashedDecls)
    (there : was ≡ get_or buckets number was) where
  -- the entries of the bucket that changes, where one more is there
  pub bucket_with : AreInBuckets order (es ++ one ∷ []) buckets → AreInOrder order (filter (is_in (length buckets) number) es ++ one ∷ []) was
  bucket_with are =
      subst (λ b. AreInOrder order (filter (is_in (length buckets) number) es ++ one ∷ []) b) (sym there)
      (subst (λ fs. AreInOrder order fs (get_or buckets number was)) (in_its_bucket es one (length buckets) number at) (are.each number was within))

  pub bucket_without : AreInBuckets order es buckets → AreInOrder order (filter (is_in (length buckets) number) es) was
  bucket_without are = subst (λ b. AreInOrder order (filter (is_in (length buckets) number) es) b) (sym there) (are.each number was within)

  one_changed : (fs gs : List HashedDecl) → AreInBuckets order fs buckets → ((n : ℕ) → n ≢ number → filter (is_in (length buckets) n) fs ≡ filter (is_in (length buckets) n) gs)
      → AreInOrder order (filter (is_in (length buckets) number) gs) next → AreInBuckets order gs (set buckets number next)
  one_changed fs gs are others changed = record {
    some = rw (length-set buckets number next) are.some;
    each = λ n d lt.
        let inside : n < length buckets = rw (length-set buckets number next) at lt in
        subst (λ m. AreInOrder order (filter (is_in m n) gs) (get_or (set buckets number next) n d)) (sym (length-set buckets number next)) (elim (cases_eq n number) [
          | inl here ↦ rw here (rw (get_or-set_same buckets number next d within) changed)
          | inr other ↦ rw (get_or-set_other buckets number n next d other) (subst (λ hs. AreInOrder order hs (get_or buckets n d)) (others n other) (are.each n d inside))
        ]);
  }

  pub one_left : AreInBuckets order (es ++ one ∷ []) buckets → AreInOrder order (filter (is_in (length buckets) number) es) next → AreInBuckets order es (set buckets number next)
  one_left are changed = one_changed (es ++ one ∷ []) es are (λ n other. in_no_other es one (length buckets) n (λ e. other (sym e ∙ at))) changed

  pub one_came : AreInBuckets order es buckets → AreInOrder order (filter (is_in (length buckets) number) es ++ one ∷ []) next → AreInBuckets order (es ++ one ∷ []) (set buckets number next)
  one_came are changed =
      one_changed es (es ++ one ∷ []) are (λ n other. sym (in_no_other es one (length buckets) n (λ e. other (sym e ∙ at))))
      (subst (λ fs. AreInOrder order fs next) (sym (in_its_bucket es one (length buckets) number at)) changed)

-- ---- entries that go or come one by one

module _ (order : HashedDecl → HashedDecl → Ordering) (es more : List HashedDecl) (buckets : List HashedDecls) (i : ℕ) (d : HashedDecl) (lt : i < length more) where
  pub last_leaves : AreInBuckets order (es ++ take (i + 1) more) buckets → AreInBuckets order ((es ++ take i more) ++ get_or more i d ∷ []) buckets
  last_leaves are = subst (λ fs. AreInBuckets order fs buckets) (ap (λ (fs : List HashedDecl). es ++ fs) (take_more more i d lt) ∙ sym (append_assoc es (take i more) (get_or more i d ∷ []))) are

  pub next_came : AreInBuckets order ((es ++ take i more) ++ get_or more i d ∷ []) buckets → AreInBuckets order (es ++ take (i + 1) more) buckets
  next_came are = subst (λ fs. AreInBuckets order fs buckets) (append_assoc es (take i more) (get_or more i d ∷ []) ∙ ap (λ (fs : List HashedDecl). es ++ fs) (sym (take_more more i d lt))) are
