-- Full names that stand apart at their last dots.
use Rattle.std.proofs.Common.{◌≡◌, ◌≢◌, ◌∙◌, sym, ap, ap₂, subst, refl, ◌&&◌, ◌==◌, ◌<◌, ◌≤◌, ◌+◌, ◌-◌, inl, inr, ℕ, zero, suc, List, [], ◌∷◌, ◌++◌, Bool, true, false, not, Some, None, take, drop, get_or, length, bytes_eq, arith}
use Rattle.std.specs.Prelude.{Option, nat_eq, slice_index, slice_index_or, MatchOption}
use denote.Ref.{Bor}
use Rattle.std.specs.List.{slice_get, starts_with}
use Rattle.std.specs.Cmp.{nat_cmp_is}
use Rattle.std.specs.Cmp.Lexicographic.{slice_cmp}
use Rattle.std.specs.Ordering.{nat_cmp, ordering_then}
use Rattle.std.specs.Option.{option_cmp, option_eq}
use Rattle.std.specs.Str.Pattern.{RFindsChar}
use Rattle.std.proofs.lemmas.Str.Pattern.{NoCharPasses-char, drop_at_char}
use Rattle.std.proofs.lemmas.Bool.Decides.{nat_tests}
use Rattle.std.specs.declared.cmp.Ordering.{Ordering}
use Rattle.std.specs.declared.cmp.Ordering.TheVariants.{Less, Equal, Greater}
use Rattle.std.proofs.lemmas.Bool.{cases_Bool, cases_eq, cases_lt}
use Rattle.std.proofs.lemmas.Slice.Eq.{bytes_eq-Decides}
use Rattle.std.proofs.lemmas.List.{get_or_append_left, get_or-append-add, length-append, drop_more, drop-drop, take-append-drop}
use Rattle.std.proofs.lemmas.Option.{get_or_from_slice_get, slice_get_within}
use Rattle.proto_decls.specs.BytePairs.{kind_of, HasPairs}
use Rattle.proto_decls.specs.FullNames.{has_dot, last_of, scope_of}
use Rattle.proto_decls.specs.Text.{joined}
use Rattle.proto_decls.proofs.LastParts.{no_dot, split, scope_alone, scope_leading, scope_apart, last_alone, last_leading, last_apart}

-- ---- the parts make up the name

pub joined_again : (n : List ℕ) → joined (scope_of n) (last_of n) ≡ n
joined_again n = elim (split n) [
  | inl plain ↦ ap (λ s. joined s (last_of n)) (sym (scope_alone n plain)) ∙ sym (last_alone n plain)
  | inr parts ↦ subst (λ n. joined (scope_of n) (last_of n) ≡ n) (sym parts.2) (at parts.0 parts.1 parts.3)
]
  where
    at : (a q : List ℕ) → has_dot q ≡ false → joined (scope_of (a ++ 46 ∷ q)) (last_of (a ++ 46 ∷ q)) ≡ a ++ 46 ∷ q
    at [] q plain = ap (λ s. joined s (last_of (46 ∷ q))) (sym (scope_leading q plain)) ∙ sym (last_leading q plain)
    at (c ∷ a) q plain =
        let some : c ∷ a ≢ [] = λ e. absurd (cc (e)) in
        ap (λ s. joined s (last_of ((c ∷ a) ++ 46 ∷ q))) (sym (scope_apart (c ∷ a) q some plain)) ∙ ap (joined (c ∷ a)) (sym (last_apart (c ∷ a) q some plain))

-- a name without a dot is the last component of what it is joined to
pub last_joined : (s l : List ℕ) → has_dot l ≡ false → l ≡ last_of (joined s l)
last_joined [] l plain = last_alone l plain
last_joined (c ∷ s) l plain = last_apart (c ∷ s) l (λ e. absurd (cc (e))) plain

pub scope_joined : (s l : List ℕ) → has_dot l ≡ false → s ≡ scope_of (joined s l)
scope_joined [] l plain = scope_alone l plain
scope_joined (c ∷ s) l plain = scope_apart (c ∷ s) l (λ e. absurd (cc (e))) plain

-- names are the same where both parts are
pub same_parts : (m n : List ℕ) → (bytes_eq (last_of m) (last_of n) && bytes_eq (scope_of m) (scope_of n)) ≡ bytes_eq m n
same_parts m n = elim (cases_Bool (bytes_eq m n)) [
  | inl holds ↦
      let equal : m ≡ n = (bytes_eq-Decides m n).0 holds in
      let one = (bytes_eq-Decides (last_of m) (last_of n)).1 (ap last_of equal) in
      let two = (bytes_eq-Decides (scope_of m) (scope_of n)).1 (ap scope_of equal) in
      rw (holds, one, two) refl
  | inr fails ↦ elim (cases_Bool (bytes_eq (last_of m) (last_of n))) [
    | inl one ↦ elim (cases_Bool (bytes_eq (scope_of m) (scope_of n))) [
      | inl two ↦
          let l : last_of m ≡ last_of n = (bytes_eq-Decides (last_of m) (last_of n)).0 one in
          let s : scope_of m ≡ scope_of n = (bytes_eq-Decides (scope_of m) (scope_of n)).0 two in
          let equal : m ≡ n = sym (joined_again m) ∙ ap (λ x. joined x (last_of m)) s ∙ ap (joined (scope_of n)) l ∙ joined_again n in
          absurd (cc (fails, (bytes_eq-Decides m n).1 equal))
      | inr other ↦ rw (fails, one, other) refl
    ]
    | inr other ↦ rw (fails, other) refl
  ]
]

-- ---- how names compare

then_twice : (a b c : Ordering) → ordering_then a (ordering_then b c) ≡ ordering_then (ordering_then a b) c
then_twice Less b c = refl
then_twice Equal b c = refl
then_twice Greater b c = refl

-- texts compare by so many bytes at their fronts, and then by what stands behind these
pub by_fronts : (n : ℕ) (xs ys : List ℕ) → n ≤ length xs → n ≤ length ys
    → slice_cmp nat_cmp xs ys ≡ ordering_then (slice_cmp nat_cmp (take n xs) (take n ys)) (slice_cmp nat_cmp (drop n xs) (drop n ys))
by_fronts zero xs ys le le' = refl
by_fronts (suc n) [] ys le le' = absurd (omega (arith, le))
by_fronts (suc n) (x ∷ xs) [] le le' = absurd (omega (arith, le'))
by_fronts (suc n) (x ∷ xs) (y ∷ ys) le le' =
    rw (by_fronts n xs ys (omega (arith, le)) (omega (arith, le'))) (then_twice (nat_cmp x y) (slice_cmp nat_cmp (take n xs) (take n ys)) (slice_cmp nat_cmp (drop n xs) (drop n ys)))

-- the scope stands at the front
pub front_joined : (n : ℕ) (s l : List ℕ) → n ≤ length s → take n (joined s l) ≡ take n s
front_joined zero s l le = refl
front_joined (suc n) [] l le = absurd (omega (arith, le))
front_joined (suc n) (c ∷ s) l le = ap (λ t. c ∷ t) (front n s le)
  where
    front : (n : ℕ) (s : List ℕ) → suc n ≤ suc (length s) → take n (s ++ 46 ∷ l) ≡ take n s
    front zero s le = refl
    front (suc n) [] le = absurd (omega (arith, le))
    front (suc n) (c ∷ s) le = ap (λ t. c ∷ t) (front n s (omega (arith, le)))

pub no_longer : (s l : List ℕ) → length s ≤ length (joined s l)
no_longer [] l = omega arith
no_longer (c ∷ s) l = omega (arith, length-append (c ∷ s) (46 ∷ l))

-- ---- two texts from a place on

pub both_go_on : (xs ys : List ℕ) (k : ℕ) → k < length xs → k < length ys
    → slice_cmp nat_cmp (drop k xs) (drop k ys) ≡ ordering_then (nat_cmp (get_or xs k 0) (get_or ys k 0)) (slice_cmp nat_cmp (drop (k + 1) xs) (drop (k + 1) ys))
both_go_on xs ys k lt lt' = ap₂ (slice_cmp nat_cmp) (drop_more xs k 0 lt) (drop_more ys k 0 lt')

equal_bytes : (a : ℕ) → nat_cmp a a ≡ Equal
equal_bytes a = sym (nat_cmp_is a a Equal refl)

pub same_byte : (xs ys : List ℕ) (k a : ℕ) → slice_get xs k ≡ Some a → slice_get ys k ≡ Some a
    → slice_cmp nat_cmp (drop k xs) (drop k ys) ≡ slice_cmp nat_cmp (drop (k + 1) xs) (drop (k + 1) ys)
same_byte xs ys k a e e' =
    let one : get_or xs k 0 ≡ a = get_or_from_slice_get xs k a 0 e in
    let two : get_or ys k 0 ≡ a = get_or_from_slice_get ys k a 0 e' in
    both_go_on xs ys k (slice_get_within xs k a e) (slice_get_within ys k a e')
    ∙ ap₂ (λ x y. ordering_then (nat_cmp x y) (slice_cmp nat_cmp (drop (k + 1) xs) (drop (k + 1) ys))) one two
    ∙ ap (λ o. ordering_then o (slice_cmp nat_cmp (drop (k + 1) xs) (drop (k + 1) ys))) (equal_bytes a)

settled : (a b : ℕ) (rest : Ordering) → a ≢ b → ordering_then (nat_cmp a b) rest ≡ nat_cmp a b
settled a b rest other = elim (cases_lt a b) [
  | inl less ↦ rw (sym (nat_cmp_is a b Less less)) refl
  | inr more ↦ elim (cases_eq a b) [
    | inl equal ↦ absurd (other equal)
    | inr apart ↦ rw (sym (nat_cmp_is a b Greater (omega (arith, more, apart)))) refl
  ]
]

pub other_byte : (xs ys : List ℕ) (k a b : ℕ) → slice_get xs k ≡ Some a → slice_get ys k ≡ Some b → a ≢ b
    → slice_cmp nat_cmp (drop k xs) (drop k ys) ≡ nat_cmp a b
other_byte xs ys k a b e e' other =
    let one : get_or xs k 0 ≡ a = get_or_from_slice_get xs k a 0 e in
    let two : get_or ys k 0 ≡ b = get_or_from_slice_get ys k b 0 e' in
    both_go_on xs ys k (slice_get_within xs k a e) (slice_get_within ys k b e')
    ∙ ap₂ (λ x y. ordering_then (nat_cmp x y) (slice_cmp nat_cmp (drop (k + 1) xs) (drop (k + 1) ys))) one two
    ∙ settled a b (slice_cmp nat_cmp (drop (k + 1) xs) (drop (k + 1) ys)) other

nothing_left : (xs : List ℕ) (k : ℕ) → slice_get xs k ≡ None → drop k xs ≡ []
nothing_left [] zero e = refl
nothing_left [] (suc k) e = refl
nothing_left (x ∷ xs) zero e = absurd (cc (e))
nothing_left (x ∷ xs) (suc k) e = nothing_left xs k e

nothing_more : (xs : List ℕ) (k : ℕ) → slice_get xs k ≡ None → drop (k + 1) xs ≡ []
nothing_more xs k e = sym (drop-drop 1 k xs) ∙ ap (drop 1) (nothing_left xs k e)

-- the next byte is the same, or neither has one
pub same_next : (xs ys : List ℕ) (k : ℕ) (o : Option ℕ) → slice_get xs k ≡ o → slice_get ys k ≡ o
    → slice_cmp nat_cmp (drop k xs) (drop k ys) ≡ slice_cmp nat_cmp (drop (k + 1) xs) (drop (k + 1) ys)
same_next xs ys k (Some a) e e' = same_byte xs ys k a e e'
same_next xs ys k None e e' =
    ap₂ (slice_cmp nat_cmp) (nothing_left xs k e) (nothing_left ys k e') ∙ sym (ap₂ (slice_cmp nat_cmp) (nothing_more xs k e) (nothing_more ys k e'))

-- the next bytes, or that there is none, decide
pub other_next : (xs ys : List ℕ) (k : ℕ) (a b : Option ℕ) → slice_get xs k ≡ a → slice_get ys k ≡ b → a ≢ b
    → option_cmp nat_cmp a b ≡ slice_cmp nat_cmp (drop k xs) (drop k ys)
other_next xs ys k (Some a) (Some b) e e' other = sym (other_byte xs ys k a b e e' (λ is. other (ap Some is)))
other_next xs ys k (Some a) None e e' other = sym (ap₂ (slice_cmp nat_cmp) (drop_more xs k 0 (slice_get_within xs k a e)) (nothing_left ys k e'))
other_next xs ys k None (Some b) e e' other = sym (ap₂ (slice_cmp nat_cmp) (nothing_left xs k e) (drop_more ys k 0 (slice_get_within ys k b e')))
other_next xs ys k None None e e' other = absurd (other refl)

-- one text has ended
pub at_end : (xs ys : List ℕ) (k : ℕ) (a b : Option ℕ) → length xs ≤ k → slice_get xs k ≡ a → slice_get ys k ≡ b
    → option_cmp nat_cmp a b ≡ slice_cmp nat_cmp (drop k xs) (drop k ys)
at_end xs ys k (Some a) b past e e' = absurd (omega (arith, past, slice_get_within xs k a e))
at_end xs ys k None (Some b) past e e' = sym (ap₂ (slice_cmp nat_cmp) (nothing_left xs k e) (drop_more ys k 0 (slice_get_within ys k b e')))
at_end xs ys k None None past e e' = sym (ap₂ (slice_cmp nat_cmp) (nothing_left xs k e) (nothing_left ys k e'))

pub same_option : (a b : Option ℕ) → not (option_eq nat_eq a b) ≡ false → b ≡ a
same_option (Some x) (Some y) e = elim (cases_eq x y) [
  | inl equal ↦ ap Some (sym equal)
  | inr other ↦ absurd (grind (arith, nat_tests))
]
same_option (Some x) None e = absurd (cc (e))
same_option None (Some y) e = absurd (cc (e))
same_option None None e = refl

pub other_option : (a b : Option ℕ) → not (option_eq nat_eq a b) ≡ true → a ≢ b
other_option a b e is = same a b is e
  where
    same : (a b : Option ℕ) → a ≡ b → not (option_eq nat_eq a b) ≡ true → ⊥
    same (Some x) (Some y) is e = let equal : x ≡ y = cc (is) in grind (arith, nat_tests)
    same (Some x) None is e = cc (is)
    same None (Some y) is e = cc (is)
    same None None is e = cc (e)

-- names compare by what stands at the fronts of their scopes, and then by what stands behind that
pub by_scopes : (n : ℕ) (s l s' l' : List ℕ) → n ≤ length s → n ≤ length s'
    → slice_cmp nat_cmp (joined s l) (joined s' l') ≡ ordering_then (slice_cmp nat_cmp (take n s) (take n s')) (slice_cmp nat_cmp (drop n (joined s l)) (drop n (joined s' l')))
by_scopes n s l s' l' le le' =
    by_fronts n (joined s l) (joined s' l') (omega (arith, le, no_longer s l)) (omega (arith, le', no_longer s' l'))
    ∙ ap₂ (λ x y. ordering_then (slice_cmp nat_cmp x y) (slice_cmp nat_cmp (drop n (joined s l)) (drop n (joined s' l')))) (front_joined n s l le) (front_joined n s' l' le')

pub decided : (o rest : Ordering) → o ≢ Equal → ordering_then o rest ≡ o
decided Less rest other = refl
decided Equal rest other = absurd (other refl)
decided Greater rest other = refl

-- ---- a text that begins with a name

both : (a b c : Bool) → (a && (b && c)) ≡ ((a && b) && c)
both true b c = refl
both false b c = refl

pub starts_twice : (p n d : List ℕ) → starts_with nat_eq p (n ++ d) ≡ (starts_with nat_eq p n && starts_with nat_eq (drop (length n) p) d)
starts_twice p [] d = refl
starts_twice [] (x ∷ n) d = refl
starts_twice (y ∷ p) (x ∷ n) d = rw (starts_twice p n d) (both (nat_eq x y) (starts_with nat_eq p n) (starts_with nat_eq (drop (length n) p) d))

-- what stands behind two texts, the one behind the other
pub behind_two : (p n d : List ℕ) (r : Option (Bor (List ℕ))) → starts_with nat_eq p n ≡ true
    → MatchOption r (starts_with nat_eq (drop (length n) p) d ≡ false) (λ rest. (starts_with nat_eq (drop (length n) p) d ≡ true) × (rest.now ≡ drop (length d) (drop (length n) p)))
    → MatchOption r (starts_with nat_eq p (n ++ d) ≡ false) (λ rest. (starts_with nat_eq p (n ++ d) ≡ true) × (rest.now ≡ drop (length (n ++ d)) p))
behind_two p n d None begins found = rw (starts_twice p n d, begins) found
behind_two p n d (Some rest) begins found = (
  rw (starts_twice p n d, begins) found.0,
  found.1 ∙ drop-drop (length d) (length n) p ∙ ap (λ k. drop k p) (let e : length n + length d ≡ length (n ++ d) = omega (arith, length-append n d) in e),
)

pub fails_at_once : (p n d : List ℕ) → starts_with nat_eq p n ≡ false → starts_with nat_eq p (n ++ d) ≡ false
fails_at_once p n d e = rw (starts_twice p n d, e) refl

pub joined_some : (s l : List ℕ) → (length s == 0) ≡ false → joined s l ≡ s ++ 46 ∷ l
joined_some [] l e = absurd (cc (e))
joined_some (c ∷ s) l e = refl

pub joined_len : (s l : List ℕ) → length (joined s l) ≤ length s + (1 + length l)
joined_len [] l = omega arith
joined_len (c ∷ s) l = omega (arith, length-append (c ∷ s) (46 ∷ l))

-- ---- what a search for the last dot finds

pub found_parts : (text : List ℕ) (i j : ℕ) → RFindsChar 46 text (Some (i, j)) → (has_dot (drop j text) ≡ false) × (text ≡ take i text ++ 46 ∷ drop j text)
found_parts text i j found = (
  no_dot (drop j text) (λ k lt. NoCharPasses-char 46 (drop j text) k found.0 (omega arith) lt),
  sym (take-append-drop i text) ∙ ap (λ l. take i text ++ l) (drop_at_char 46 text i j found.1 (omega arith)),
)

pub found_first : (text : List ℕ) (i j : ℕ) → RFindsChar 46 text (Some (i, j)) → (length (take i text) == 0) ≡ true → ([] ≡ scope_of text) × (text ≡ last_of text)
found_first text i j found empty =
    let parts = found_parts text i j found in
    let whole : text ≡ 46 ∷ drop j text = parts.1 ∙ ap (λ t. t ++ 46 ∷ drop j text) (none (take i text) empty) in
    (scope_leading (drop j text) parts.0 ∙ ap scope_of (sym whole), whole ∙ last_leading (drop j text) parts.0 ∙ ap last_of (sym whole))
  where
    none : (xs : List ℕ) → (length xs == 0) ≡ true → xs ≡ []
    none [] e = refl
    none (x ∷ xs) e = absurd (grind (arith, nat_tests))

pub found_nowhere : (text : List ℕ) → RFindsChar 46 text None → ([] ≡ scope_of text) × (text ≡ last_of text)
found_nowhere text nowhere =
    let plain : has_dot text ≡ false = no_dot text (λ k lt. NoCharPasses-char 46 text k nowhere (omega arith) lt) in
    (scope_alone text plain, last_alone text plain)

-- ---- the pairs of a name

-- what has the pairs of both parts, and those of the dot between them, has the pairs of the name
pub pairs_joined : (seen : List Bool) (s l : List ℕ) → HasPairs seen s → HasPairs seen l
    → (0 < length s → slice_index_or seen (kind_of (slice_index s (length s - 1)) 46) false ≡ true)
    → (0 < length s → 0 < length l → slice_index_or seen (kind_of 46 (slice_index l 0)) false ≡ true)
    → HasPairs seen (joined s l)
pairs_joined seen [] l scope own end start = own
pairs_joined seen (c ∷ s) l scope own end start = λ i there. elim (cases_lt (i + 1) n) [
  | inl inside ↦ rw (ahead i (omega (arith, inside)), ahead (i + 1) inside) (scope i inside)
  | inr outside ↦ elim (cases_eq (i + 1) n) [
    | inl last ↦
        let at : i ≡ n - 1 = omega (arith, last) in
        let one : slice_index whole i ≡ slice_index (c ∷ s) (n - 1) = ahead i (omega (arith, last)) ∙ ap (slice_index (c ∷ s)) at in
        let two : slice_index whole (i + 1) ≡ 46 = ap (slice_index whole) (let e : i + 1 ≡ n + 0 = omega (arith, last) in e) ∙ after 0 in
        rw (one, two) (end (omega arith))
    | inr beyond ↦ elim (cases_eq i n) [
      | inl first ↦
          let long : i + 1 < n + (1 + length l) = omega (arith, there, length-append (c ∷ s) (46 ∷ l)) in
          let one : slice_index whole i ≡ 46 = ap (slice_index whole) (let e : i ≡ n + 0 = omega (arith, first) in e) ∙ after 0 in
          let two : slice_index whole (i + 1) ≡ slice_index l 0 = ap (slice_index whole) (let e : i + 1 ≡ n + (1 + 0) = omega (arith, first) in e) ∙ behind 0 in
          rw (one, two) (start (omega arith) (omega (arith, long, first)))
      | inr later ↦
          let long : i + 1 < n + (1 + length l) = omega (arith, there, length-append (c ∷ s) (46 ∷ l)) in
          let k : ℕ = i - n - 1 in
          let one : slice_index whole i ≡ slice_index l k = ap (slice_index whole) (let e : i ≡ n + (1 + k) = omega (arith, outside, beyond, later) in e) ∙ behind k in
          let two : slice_index whole (i + 1) ≡ slice_index l (k + 1) = ap (slice_index whole) (let e : i + 1 ≡ n + (1 + (k + 1)) = omega (arith, outside, beyond, later) in e) ∙ behind (k + 1) in
          rw (one, two) (own k (omega (arith, long, outside, beyond, later)))
    ]
  ]
]
  where
    n : ℕ
    n = length (c ∷ s)

    whole : List ℕ
    whole = (c ∷ s) ++ 46 ∷ l

    ahead : (k : ℕ) → k < n → slice_index whole k ≡ slice_index (c ∷ s) k
    ahead k lt = get_or_append_left (c ∷ s) (46 ∷ l) 0 k lt

    after : (k : ℕ) → slice_index whole (n + k) ≡ slice_index (46 ∷ l) k
    after k = get_or-append-add (c ∷ s) (46 ∷ l) k 0

    behind : (k : ℕ) → slice_index whole (n + (1 + k)) ≡ slice_index l k
    behind k = after (1 + k) ∙ get_or-append-add (46 ∷ []) l k 0
