-- Front parts of a scope with a component behind them, where packages begin with them.
use Rattle.std.proofs.Common.{◌≡◌, ◌∙◌, sym, ap, subst, refl, inl, inr, ◌⊎◌, ◌<◌, ◌≤◌, ◌+◌, ◌-◌, max, ℕ, List, [], ◌∷◌, ◌++◌, Bool, true, false, ◌&&◌, ◌||◌, Option, Some, None, get_or, length, take, drop, arith}
use Rattle.std.specs.Prelude.{All, nat_eq, nat_lt}
use Rattle.std.specs.List.{starts_with}
use Rattle.std.specs.List.Sorted.{IsPartitionPoint}
use Rattle.std.proofs.Math.Path.{fun_ext}
use Rattle.std.proofs.lemmas.Bool.{cases_eq, cases_lt}
use Rattle.std.proofs.lemmas.Bool.Decides.{nat_tests}
use Rattle.std.proofs.lemmas.List.{drop_all, drop_more, length-drop, take_all}
use Rattle.proto_decls.specs.Text.{joined}
use Rattle.proto_names.specs.Files.{begins, ends_component}
use Rattle.proto_names.specs.Holders.{later, IsPast}

grouped : (a b c : Bool) → (a && (b && c)) ≡ ((a && b) && c)
grouped true b c = refl
grouped false b c = refl

never : (b : Bool) → (b && false) ≡ false
never true = refl
never false = refl

-- the first components of a name are those of a part, and those of the rest
begins_twice : (p n d : List ℕ) → begins p (n ++ d) ≡ (starts_with nat_eq p n && begins (drop (length n) p) d)
begins_twice p [] d = refl
begins_twice [] (x ∷ n) d = refl
begins_twice (y ∷ p) (x ∷ n) d =
    sym (grouped (nat_eq x y) (starts_with nat_eq p (n ++ d)) (ends_component (drop (length (n ++ d)) p)))
    ∙ ap (λ b. nat_eq x y && b) (begins_twice p n d)
    ∙ grouped (nat_eq x y) (starts_with nat_eq p n) (begins (drop (length n) p) d)

-- a part up to the end
pub to_end : {X : Type 0} (n : ℕ) (p : List X) → take (length p - n) (drop n p) ≡ drop n p
to_end n p = take_all (length p - n) (drop n p) (omega (arith, length-drop n p))

-- a package that doesn't begin with a scope isn't within a name in it
pub not_inside : (p s name : List ℕ) → starts_with nat_eq p s ≡ false → begins p (joined s name) ≡ false
not_inside p [] name e = absurd (cc (e))
not_inside p (c ∷ s) name e = begins_twice p (c ∷ s) (46 ∷ name) ∙ ap (λ b. b && begins (drop (length (c ∷ s)) p) (46 ∷ name)) e

-- nor is one that doesn't go on with the name
module _ (p s name : List ℕ) (at : ℕ) (long : length s ≡ at) (some : 0 < at) where
  by_tail : (s : List ℕ) → length s ≡ at → begins (drop at p) (46 ∷ name) ≡ false → begins p (joined s name) ≡ false
  by_tail [] long e = absurd (omega (arith, some, long))
  by_tail (c ∷ s) long e =
      let fails : begins (drop (length (c ∷ s)) p) (46 ∷ name) ≡ false = ap (λ n. begins (drop n p) (46 ∷ name)) long ∙ e in
      begins_twice p (c ∷ s) (46 ∷ name) ∙ ap (λ b. starts_with nat_eq p (c ∷ s) && b) fails ∙ never (starts_with nat_eq p (c ∷ s))

  pub ends_there : length p ≤ at → begins p (joined s name) ≡ false
  ends_there le = by_tail s long (rw (drop_all at p le) refl)

  pub no_dot_there : at < length p → (get_or p at 0 ≡ 46 → ⊥) → begins p (joined s name) ≡ false
  no_dot_there lt other = by_tail s long (rw (drop_more p at 0 lt) (elim (cases_eq (get_or p at 0) 46) [
    | inl equal ↦ absurd (other equal)
    | inr unlike ↦ grind (arith, nat_tests)
  ]))

  pub other_there : at < length p → begins (drop (at + 1) p) name ≡ false → begins p (joined s name) ≡ false
  other_there lt e = by_tail s long (rw (drop_more p at 0 lt)
      (sym (grouped (nat_eq 46 (get_or p at 0)) (starts_with nat_eq (drop (at + 1) p) name) (ends_component (drop (length name) (drop (at + 1) p))))
      ∙ ap (λ b. nat_eq 46 (get_or p at 0) && b) e ∙ never (nat_eq 46 (get_or p at 0))))

-- behind what the two texts have in common nothing passes
pub none_behind : (p s name ns : List ℕ) (past left : ℕ) → ((l : ℕ) → past ≤ l → l ≤ length s → starts_with nat_eq p (take l s) ≡ false) → All (λ l. l ≤ length s) ns
    → IsPartitionPoint (λ n. nat_lt n past ≡ true) (λ n. nat_lt n past ≡ false) ns left
    → (k : ℕ) → left ≤ k → k < length ns → begins p (joined (take (get_or ns k 0) s) name) ≡ false
none_behind p s name ns past left longer within point k from lt =
    let high = point.1 k 0 from lt in
    let over : past ≤ get_or ns k 0 = grind (arith, nat_tests) in
    not_inside p (take (get_or ns k 0) s) name (longer (get_or ns k 0) over (within k 0 lt))

module _ (f g h : ℕ → Bool) (either : (l : ℕ) → h l ≡ (f l || g l)) (lengths : List ℕ) where
  both : (l : ℕ) → f l ≡ false → g l ≡ false → h l ≡ false
  both l e e' = rw (either l, e) e'

  pub past_two : (a b : Option ℕ) → IsPast f lengths a → IsPast g lengths b → IsPast h lengths (later a b)
  past_two None None p q = λ k lt. both (get_or lengths k 0) (p k lt) (q k lt)
  past_two None (Some y) p q = (q.0, λ k up lt. both (get_or lengths k 0) (p k lt) (q.1 k up lt))
  past_two (Some x) None p q = (p.0, λ k up lt. both (get_or lengths k 0) (p.1 k up lt) (q k lt))
  past_two (Some x) (Some y) p q = (within (cases_lt x y), λ k up lt. both (get_or lengths k 0) (p.1 k (omega (arith, up)) lt) (q.1 k (omega (arith, up)) lt))
    where
      within : (x < y) ⊎ (y ≤ x) → max x y < length lengths
      within (inl lt) = let same : max x y ≡ y = omega (arith, lt) in rw same q.0
      within (inr le) = let same : max x y ≡ x = omega (arith, le) in rw same p.0

pub past_same : (f g : ℕ → Bool) → ((n : ℕ) → f n ≡ g n) → (lengths : List ℕ) (r : Option ℕ) → IsPast f lengths r → IsPast g lengths r
past_same f g same lengths r past = subst (λ t. IsPast t lengths r) (fun_ext same) past
