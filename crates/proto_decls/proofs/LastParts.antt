-- A full name is split at its last dot in one way.
use Rattle.std.proofs.Common.{◌≡◌, ◌≢◌, ◌⊎◌, ◌∙◌, sym, ap, subst, refl, ◌&&◌, ◌==◌, ◌<◌, ◌+◌, ◌-◌, inl, inr, ℕ, zero, suc, List, [], ◌∷◌, ◌++◌, true, false, take, drop, get_or, length, bytes_eq, arith}
use Rattle.std.specs.Prelude.{slice_range}
use Rattle.std.proofs.lemmas.Bool.{cases_Bool, cases_eq}
use Rattle.std.proofs.lemmas.Bool.Decides.{nat_tests}
use Rattle.std.proofs.lemmas.Slice.Eq.{bytes_eq-Decides}
use Rattle.std.proofs.lemmas.List.{take-append-drop, take-append-le, take_all, drop_more, get_or-drop, length-append, length-drop}
use Rattle.std.proofs.lemmas.List.Elements.{All-from_get_or}
use Rattle.std.proofs.lemmas.List.Folds.{list_any_none}
use Rattle.proto_decls.specs.Text.{joined}
use Rattle.proto_decls.specs.FullNames.{has_dot, behind_dot, last_of, scope_before, scope_of}

-- the parts are those into which a full name is split at its last dot
pub record AreParts (scope last full_name : List ℕ) : Type 0 where
  pub only : (s q : List ℕ) → has_dot q ≡ false → (bytes_eq last q && bytes_eq scope s) ≡ bytes_eq full_name (joined s q)
  pub before : scope ≡ scope_before (length last) full_name

dot_inside : (b p : List ℕ) → has_dot (b ++ 46 ∷ p) ≡ true
dot_inside [] p = refl
dot_inside (x ∷ b) p = elim (cases_Bool (x == 46)) [
  | inl holds ↦ rw holds refl
  | inr fails ↦ rw fails (dot_inside b p)
]

-- a text with a dot in it is none without
clash : (q b p : List ℕ) → has_dot q ≡ false → q ≡ b ++ 46 ∷ p → ⊥
clash q b p plain e = absurd (cc (plain, ap has_dot e, dot_inside b p))

unique : (a b q p : List ℕ) → has_dot q ≡ false → has_dot p ≡ false → a ++ 46 ∷ q ≡ b ++ 46 ∷ p → (a ≡ b) × (q ≡ p)
unique [] [] q p plain plain' e = (refl, cc (e))
unique [] (y ∷ b) q p plain plain' e = let t : q ≡ b ++ 46 ∷ p = cc (e) in absurd (clash q b p plain t)
unique (x ∷ a) [] q p plain plain' e = let t : p ≡ a ++ 46 ∷ q = cc (e) in absurd (clash p a q plain' t)
unique (x ∷ a) (y ∷ b) q p plain plain' e =
    let h : x ≡ y = cc (e) in
    let t : a ++ 46 ∷ q ≡ b ++ 46 ∷ p = cc (e) in
    let rest = unique a b q p plain plain' t in
    (cc (h, rest.0), rest.1)

-- the parts by what they are, as a test
module _ (scope last n : List ℕ) (whole : n ≡ joined scope last) (only : (s q : List ℕ) → has_dot q ≡ false → n ≡ joined s q → (last ≡ q) × (scope ≡ s)) where
  tested : (s q : List ℕ) → has_dot q ≡ false → (bytes_eq last q && bytes_eq scope s) ≡ bytes_eq n (joined s q)
  tested s q plain = elim (cases_Bool (bytes_eq n (joined s q))) [
    | inl holds ↦
        let both = only s q plain ((bytes_eq-Decides n (joined s q)).0 holds) in
        let one = (bytes_eq-Decides last q).1 both.0 in
        let two = (bytes_eq-Decides scope s).1 both.1 in
        rw (holds, one, two) refl
    | inr fails ↦ elim (cases_Bool (bytes_eq last q)) [
      | inl one ↦ elim (cases_Bool (bytes_eq scope s)) [
        | inl two ↦
            let e = (bytes_eq-Decides last q).0 one in
            let e' = (bytes_eq-Decides scope s).0 two in
            let equal : n ≡ joined s q = whole ∙ ap (λ x. joined x last) e' ∙ ap (joined s) e in
            absurd (cc (fails, (bytes_eq-Decides n (joined s q)).1 equal))
        | inr other ↦ rw (fails, one, other) refl
      ]
      | inr other ↦ rw (fails, other) refl
    ]
  ]

nothing_before : (n : List ℕ) → [] ≡ scope_before (length n) n
nothing_before n = let none : length n - length n - 1 ≡ 0 = omega arith in rw none refl

-- a name with no dot
pub alone : (n : List ℕ) → has_dot n ≡ false → AreParts [] n n
alone n plain = record { only = tested [] n n refl only; before = nothing_before n }
  where
    only : (s q : List ℕ) → has_dot q ≡ false → n ≡ joined s q → (n ≡ q) × ([] ≡ s)
    only [] q plain' e = (e, refl)
    only (c ∷ s) q plain' e = absurd (clash n (c ∷ s) q plain e)

-- a name whose one dot is its first byte
pub leading : (r : List ℕ) → has_dot r ≡ false → AreParts [] (46 ∷ r) (46 ∷ r)
leading r plain = record { only = tested [] (46 ∷ r) (46 ∷ r) refl only; before = nothing_before (46 ∷ r) }
  where
    only : (s q : List ℕ) → has_dot q ≡ false → 46 ∷ r ≡ joined s q → (46 ∷ r ≡ q) × ([] ≡ s)
    only [] q plain' e = (e, refl)
    only (c ∷ s) q plain' e = let t : r ≡ s ++ 46 ∷ q = cc (e) in absurd (clash r s q plain t)

front_of : (a q : List ℕ) → a ≡ scope_before (length q) (a ++ 46 ∷ q)
front_of a q =
    let long : length (a ++ 46 ∷ q) - length q - 1 ≡ length a = omega (arith, length-append a (46 ∷ q)) in
    rw long (sym (take-append-le (length a) a (46 ∷ q) (omega arith) ∙ take_all (length a) a (omega arith)))

pub apart : (a q : List ℕ) → (a ≢ []) → has_dot q ≡ false → AreParts a q (a ++ 46 ∷ q)
apart [] q some plain = absurd (some refl)
apart (c ∷ a) q some plain = record { only = tested (c ∷ a) q ((c ∷ a) ++ 46 ∷ q) refl only; before = front_of (c ∷ a) q }
  where
    only : (s p : List ℕ) → has_dot p ≡ false → (c ∷ a) ++ 46 ∷ q ≡ joined s p → (q ≡ p) × (c ∷ a ≡ s)
    only [] p plain' e = absurd (clash p (c ∷ a) q plain' (sym e))
    only (d ∷ s) p plain' e = let both = unique (c ∷ a) (d ∷ s) q p plain plain' e in (both.1, both.0)

pub no_dot : (n : List ℕ) → ((i : ℕ) → i < length n → get_or n i 0 ≢ 46) → has_dot n ≡ false
no_dot n none = list_any_none (λ a. a == 46) n (All-from_get_or (λ a. (a == 46) ≡ false) n 0 (λ k lt. elim (cases_eq (get_or n k 0) 46) [
  | inl equal ↦ absurd (none k lt equal)
  | inr other ↦ grind (arith, nat_tests)
]))

pub last_plain : (n : List ℕ) (k : ℕ) → ((i : ℕ) → k < i → i < length n → get_or n i 0 ≢ 46) → has_dot (drop (k + 1) n) ≡ false
last_plain n k none = no_dot (drop (k + 1) n) (λ i lt e.
    let long = length-drop (k + 1) n in
    none (k + 1 + i) (omega arith) (omega (arith, lt, long)) (sym (get_or-drop (k + 1) n i 0) ∙ e))

pub at_dot : (n : List ℕ) (k : ℕ) → k < length n → get_or n k 0 ≡ 46 → n ≡ take k n ++ 46 ∷ drop (k + 1) n
at_dot n k lt e = sym (take-append-drop k n) ∙ ap (λ t. take k n ++ t) (drop_more n k 0 lt ∙ ap (λ c. c ∷ drop (k + 1) n) e)

pub some_front : (n : List ℕ) (k : ℕ) → 0 < k → k < length n → take k n ≢ []
some_front [] k pos lt e = absurd (omega (arith, lt))
some_front (x ∷ n) zero pos lt e = absurd (omega (arith, pos))
some_front (x ∷ n) (suc k) pos lt e = absurd (cc (e))

pub front_is : (n : List ℕ) (k : ℕ) → slice_range n 0 k ≡ take k n
front_is n k = let e : k - 0 ≡ k = omega arith in ap (λ j. take j n) e

-- ---- the last component

behind_at : (a q : List ℕ) → has_dot q ≡ false → behind_dot (a ++ 46 ∷ q) ≡ q
behind_at [] q plain = rw plain refl
behind_at (x ∷ a) q plain = rw (dot_inside a q) (behind_at a q plain)

plain_tail : (c : ℕ) (cs : List ℕ) → has_dot (c ∷ cs) ≡ false → has_dot cs ≡ false
plain_tail c cs plain = elim (cases_Bool (c == 46)) [
  | inl holds ↦ absurd (cc (rw holds at plain))
  | inr fails ↦ rw fails at plain
]

pub last_alone : (n : List ℕ) → has_dot n ≡ false → n ≡ last_of n
last_alone [] plain = refl
last_alone (c ∷ cs) plain = rw (plain_tail c cs plain) refl

pub last_leading : (r : List ℕ) → has_dot r ≡ false → 46 ∷ r ≡ last_of (46 ∷ r)
last_leading r plain = rw plain refl

pub last_apart : (a q : List ℕ) → (a ≢ []) → has_dot q ≡ false → q ≡ last_of (a ++ 46 ∷ q)
last_apart [] q some plain = absurd (some refl)
last_apart (c ∷ a) q some plain = rw (dot_inside a q) (sym (behind_at a q plain))

-- ---- the parts of any name

pub split : (n : List ℕ) → (has_dot n ≡ false) ⊎ ((a : List ℕ) × (q : List ℕ) × (n ≡ a ++ 46 ∷ q) × (has_dot q ≡ false))
split [] = inl refl
split (c ∷ cs) = elim (split cs) [
  | inl plain ↦ elim (cases_eq c 46) [
    | inl equal ↦ inr ([], cs, ap (λ x. x ∷ cs) equal, plain)
    | inr other ↦ inl (let fails : (c == 46) ≡ false = grind (arith, nat_tests) in rw (fails, plain) refl)
  ]
  | inr parts ↦ inr (c ∷ parts.0, parts.1, ap (λ xs. c ∷ xs) parts.2, parts.3)
]

settled : (s l n : List ℕ) → AreParts s l n → l ≡ last_of n → AreParts (scope_of n) (last_of n) n
settled s l n are is = subst (λ l. AreParts (scope_before (length l) n) l n) is (subst (λ s. AreParts s l n) are.before are)

parts_at : (a q : List ℕ) → has_dot q ≡ false → AreParts (scope_of (a ++ 46 ∷ q)) (last_of (a ++ 46 ∷ q)) (a ++ 46 ∷ q)
parts_at [] q plain = settled [] (46 ∷ q) (46 ∷ q) (leading q plain) (last_leading q plain)
parts_at (c ∷ a) q plain =
    let some : c ∷ a ≢ [] = λ e. absurd (cc (e)) in
    settled (c ∷ a) q ((c ∷ a) ++ 46 ∷ q) (apart (c ∷ a) q some plain) (last_apart (c ∷ a) q some plain)

pub parts_of_any : (n : List ℕ) → AreParts (scope_of n) (last_of n) n
parts_of_any n = elim (split n) [
  | inl plain ↦ settled [] n n (alone n plain) (last_alone n plain)
  | inr parts ↦ subst (λ n. AreParts (scope_of n) (last_of n) n) (sym parts.2) (parts_at parts.0 parts.1 parts.3)
]

-- ---- the scope

pub scope_alone : (n : List ℕ) → has_dot n ≡ false → [] ≡ scope_of n
scope_alone n plain = subst (λ l. [] ≡ scope_before (length l) n) (last_alone n plain) (nothing_before n)

pub scope_leading : (r : List ℕ) → has_dot r ≡ false → [] ≡ scope_of (46 ∷ r)
scope_leading r plain = subst (λ l. [] ≡ scope_before (length l) (46 ∷ r)) (last_leading r plain) (nothing_before (46 ∷ r))

pub scope_apart : (a q : List ℕ) → (a ≢ []) → has_dot q ≡ false → a ≡ scope_of (a ++ 46 ∷ q)
scope_apart a q some plain = subst (λ l. a ≡ scope_before (length l) (a ++ 46 ∷ q)) (last_apart a q some plain) (front_of a q)

pub to_end : {X : Type 0} (n : ℕ) (p : List X) → take (length p - n) (drop n p) ≡ drop n p
to_end n p = take_all (length p - n) (drop n p) (omega (arith, length-drop n p))
