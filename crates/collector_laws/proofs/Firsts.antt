-- The first of some paths, and how many paths pass a test
use Rattle.std.proofs.Common.{◌≡◌, ℕ, ◌+◌, ◌≤◌, Bool, true, false, cond, ◌||◌, List, [], ◌∷◌, length, Option, Some, None, refl, sym, ap, ◌∙◌, unwrap_or, IsTrue, arith}
use Rattle.std.specs.Str.{bytes_eq}
use Rattle.std.specs.List.{list_any, filter}
use Rattle.std.specs.Cmp.Lexicographic.{bytes_decides}
use Rattle.piece_collector.specs.History.{Entry, Set, Removed, Gave, Offered, Failed, is_before, earlier, first, paths, sets}

-- of no paths there is no first one
pub none_first : (ps : List (List ℕ)) → length ps ≡ 0 → first ps ≡ None
none_first [] e = refl
none_first (p ∷ ps) e = absurd (omega (arith, e))

pub first_is_in : (ps : List (List ℕ)) (p : List ℕ) → first ps ≡ Some p → IsTrue (list_any (bytes_eq p) ps)
first_is_in [] p e = absurd (cc)
first_is_in (r ∷ ps) p e = by (first ps) refl (ap (λ o. unwrap_or o p) e) (first_is_in ps p)
  where
    is_r : r ≡ p → IsTrue (bytes_eq p r || list_any (bytes_eq p) ps)
    is_r same = ap (λ b. b || list_any (bytes_eq p) ps) ((bytes_decides p r).1 (sym same))

    later : (b : Bool) → IsTrue (list_any (bytes_eq p) ps) → IsTrue (b || list_any (bytes_eq p) ps)
    later true h = refl
    later false h = h

    by : (g : Option (List ℕ)) → first ps ≡ g → earlier r g ≡ p → (first ps ≡ Some p → IsTrue (list_any (bytes_eq p) ps)) → IsTrue (bytes_eq p r || list_any (bytes_eq p) ps)
    by None f same more = is_r same
    by (Some q) f same more = which (is_before r q) same
      where
        which : (b : Bool) → cond b r q ≡ p → IsTrue (bytes_eq p r || list_any (bytes_eq p) ps)
        which true is = is_r is
        which false is = later (bytes_eq p r) (more (f ∙ ap Some is))

pub count_paths : (h : List Entry) → length (paths h) ≡ sets h
count_paths [] = refl
count_paths (Set p t ∷ h) = let e = count_paths h in omega (arith, e)
count_paths (Removed p ∷ h) = count_paths h
count_paths (Gave g ∷ h) = count_paths h
count_paths (Offered p s t ∷ h) = count_paths h
count_paths (Failed p s ∷ h) = count_paths h

module _ (P : List ℕ → Bool) where
  pub at_most_all : (ps : List (List ℕ)) → length (filter P ps) ≤ length ps
  at_most_all [] = omega arith
  at_most_all (p ∷ ps) = let h = at_most_all ps in elim (P p) as (λ b. length (cond b (p ∷ filter P ps) (filter P ps)) ≤ length (p ∷ ps)) [ true ↦ omega (arith, h) | false ↦ omega (arith, h) ]

  pub none_pass : ((q : List ℕ) → P q ≡ false) → (ps : List (List ℕ)) → length (filter P ps) ≡ 0
  none_pass none [] = refl
  none_pass none (p ∷ ps) = rw (none p) (none_pass none ps)

  -- another test that only p fails of those that pass
  module _ (Q : List ℕ → Bool) (p : List ℕ) (but : (q : List ℕ) → Q q ≡ cond (bytes_eq p q) false (P q)) where
    no_more : (ps : List (List ℕ)) → length (filter Q ps) ≤ length (filter P ps)
    no_more [] = omega arith
    no_more (q ∷ ps) = by (bytes_eq p q) (P q) (no_more ps) (but q)
      where
        by : (b c : Bool) → length (filter Q ps) ≤ length (filter P ps) → Q q ≡ cond b false c → length (filter Q (q ∷ ps)) ≤ length (cond c (q ∷ filter P ps) (filter P ps))
        by true true h e = rw e (omega (arith, h))
        by true false h e = rw e h
        by false true h e = rw e (omega (arith, h))
        by false false h e = rw e h

    pub fewer : (ps : List (List ℕ)) → IsTrue (list_any (bytes_eq p) (filter P ps)) → length (filter Q ps) + 1 ≤ length (filter P ps)
    fewer [] i = absurd (cc)
    fewer (q ∷ ps) i = by (bytes_eq p q) (P q) refl (no_more ps) (fewer ps) (but q) i
      where
        by : (b c : Bool) → bytes_eq p q ≡ b → length (filter Q ps) ≤ length (filter P ps) → (IsTrue (list_any (bytes_eq p) (filter P ps)) → length (filter Q ps) + 1 ≤ length (filter P ps)) → Q q ≡ cond b false c
            → IsTrue (list_any (bytes_eq p) (cond c (q ∷ filter P ps) (filter P ps))) → length (filter Q (q ∷ ps)) + 1 ≤ length (cond c (q ∷ filter P ps) (filter P ps))
        by true true d h more e i = rw e (omega (arith, h))
        by true false d h more e i = rw e (more i)
        by false true d h more e i = let less = more (rw d at i) in rw e (omega (arith, less))
        by false false d h more e i = rw e (more i)
