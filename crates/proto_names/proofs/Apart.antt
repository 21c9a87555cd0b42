-- Full names by the parts into which they are split.
use Rattle.std.proofs.Common.{◌≡◌, ◌∙◌, sym, ap, ap₂, subst, refl, arith, append_assoc, ◌==◌, ◌≤◌, ◌+◌, true, inl, inr, ◌&&◌, ℕ, List, [], ◌∷◌, ◌++◌, false, bytes_eq, length}
use Rattle.std.specs.Cmp.Lexicographic.{slice_cmp}
use Rattle.std.specs.Ordering.{nat_cmp}
use Rattle.proto_decls.specs.FullNames.{hash_of, hash_of_parts, has_dot, last_of, scope_of, AreNameParts}
use Rattle.proto_decls.specs.Text.{joined}
use Rattle.std.proofs.lemmas.Bool.Decides.{nat_tests}
use Rattle.std.proofs.lemmas.List.{length-append}
use Rattle.proto_decls.proofs.ApartNames.{joined_again, joined_some, same_parts}
use Rattle.proto_decls.proofs.LastParts.{split, last_alone, last_apart, last_leading, scope_alone, scope_leading}

module _ (n s l : List ℕ) (scope : s ≡ scope_of n) (last : l ≡ last_of n) where
  pub whole : joined s l ≡ n
  whole = rw (scope, last) (joined_again n)

  pub are_apart : AreNameParts s l
  are_apart = (scope ∙ ap scope_of (sym whole), last ∙ ap last_of (sym whole))

  pub compared : (t : List ℕ) → slice_cmp nat_cmp (joined s l) t ≡ slice_cmp nat_cmp n t
  compared t = ap (λ m. slice_cmp nat_cmp m t) whole

  -- another name, given by its parts, is the same where both parts are
  pub tested : (s' l' : List ℕ) → AreNameParts s' l' → (bytes_eq l l' && bytes_eq s s') ≡ bytes_eq n (joined s' l')
  tested s' l' apart = rw (scope, last) (subst (λ x. (bytes_eq (last_of n) x && bytes_eq (scope_of n) s') ≡ bytes_eq n (joined s' l')) (sym apart.1)
      (subst (λ x. (bytes_eq (last_of n) (last_of (joined s' l')) && bytes_eq (scope_of n) x) ≡ bytes_eq n (joined s' l')) (sym apart.0) (same_parts n (joined s' l'))))

pub hashed_parts : (s l : List ℕ) → AreNameParts s l → hash_of_parts s l ≡ hash_of (joined s l)
hashed_parts s l apart = ap₂ hash_of_parts apart.0 apart.1

-- ---- the last component by itself

alone : (n : List ℕ) → ([] ≡ scope_of (last_of n)) × (last_of n ≡ last_of (last_of n))
alone n = elim (split n) [
  | inl plain ↦
      let is : n ≡ last_of n = last_alone n plain in
      (subst (λ x. [] ≡ scope_of x) is (scope_alone n plain), ap last_of is)
  | inr parts ↦ subst (λ x. ([] ≡ scope_of (last_of x)) × (last_of x ≡ last_of (last_of x))) (sym parts.2) (at parts.0 parts.1 parts.3)
]
  where
    at : (a q : List ℕ) → has_dot q ≡ false → ([] ≡ scope_of (last_of (a ++ 46 ∷ q))) × (last_of (a ++ 46 ∷ q) ≡ last_of (last_of (a ++ 46 ∷ q)))
    at [] q plain =
        let is : 46 ∷ q ≡ last_of (46 ∷ q) = last_leading q plain in
        (subst (λ x. [] ≡ scope_of x) is (scope_leading q plain), ap last_of is)
    at (c ∷ a) q plain =
        let is : q ≡ last_of ((c ∷ a) ++ 46 ∷ q) = last_apart (c ∷ a) q (λ e. absurd (cc (e))) plain in
        (subst (λ x. [] ≡ scope_of x) is (scope_alone q plain), subst (λ x. x ≡ last_of x) is (last_alone q plain))

pub no_scope : (n : List ℕ) → [] ≡ scope_of (last_of n)
no_scope n = (alone n).0

pub last_again : (n : List ℕ) → last_of n ≡ last_of (last_of n)
last_again n = (alone n).1

-- a name without a dot, by itself
pub apart_alone : (l : List ℕ) → has_dot l ≡ false → AreNameParts [] l
apart_alone l plain = (scope_alone l plain, last_alone l plain)

-- its hash, by its parts
pub hashed : (s l n : List ℕ) (hash : ℕ) → has_dot n ≡ false → s ≡ [] → l ≡ n → hash ≡ hash_of_parts s l → hash ≡ hash_of n
hashed s l n hash plain scope last is = is ∙ ap₂ hash_of_parts (scope ∙ scope_alone n plain) (last ∙ last_alone n plain)

-- ---- a name with a dot behind it

none : (xs : List ℕ) → (length xs == 0) ≡ true → xs ≡ []
none [] e = refl
none (x ∷ xs) e = absurd (grind (arith, nat_tests))

pub dotted_alone : (s l : List ℕ) → (length s == 0) ≡ true → joined s l ++ 46 ∷ [] ≡ l ++ 46 ∷ []
dotted_alone s l e = ap (λ x. joined x l ++ 46 ∷ []) (none s e)

pub dotted : (s l : List ℕ) → (length s == 0) ≡ false → joined s l ++ 46 ∷ [] ≡ s ++ (46 ∷ (l ++ 46 ∷ []))
dotted s l e = ap (λ x. x ++ 46 ∷ []) (joined_some s l e) ∙ append_assoc s (46 ∷ l) (46 ∷ [])

pub both_no_longer : (s l : List ℕ) → length s + length l ≤ length (joined s l)
both_no_longer [] l = omega arith
both_no_longer (c ∷ s) l = omega (arith, length-append (c ∷ s) (46 ∷ l))
