-- Where something is found, something is found at each full name that it lies in.
use Rattle.std.proofs.Common.{◌≡◌, ◌||◌, ◌&&◌, ◌==◌, inl, inr, ℕ, List, [], ◌∷◌, ◌++◌, Bool, true, false, length, take, drop, Option, Some, None, find, refl, subst, sym, ◌∙◌}
use Rattle.std.specs.Prelude.{◌≢◌, ◌⊎◌, All, IsSome, is_some, option_map, nat_eq}
use Rattle.std.specs.List.{list_any, starts_with}
use Rattle.std.specs.Option.{option_or}
use Rattle.std.proofs.lemmas.Bool.{cases_Bool}
use Rattle.std.proofs.lemmas.Bool.Decides.{Decides-eqb}
use Rattle.std.proofs.lemmas.List.{append_assoc, take-append-drop}
use Rattle.std.proofs.lemmas.Slice.Eq.{bytes_eq-Decides}
use Rattle.std.proofs.Math.Seq.{drop-append_seam, take-append_seam}
use Rattle.proto_decls.specs.declared.named_facts.NamedFacts.{NamedFacts}
use Rattle.proto_decls.specs.declared.fact.PackageFact.{PackageFact}
use Rattle.proto_decls.specs.Nesting.{NamesNest}
use Rattle.proto_decls.specs.Text.{joined}
use Rattle.proto_names.specs.declared.decl_ref.DeclRef.{DeclRef}
use Rattle.proto_resolve.specs.declared.target.Target.TheVariants.{Declared}
use Rattle.proto_names.specs.Files.{all_named, begins, ends_component, facts_at, has_package, is_within, is_seen}
use Rattle.proto_resolve.specs.Names.{first_declared, found, package_found}
use Rattle.proto_resolve.proofs.Nesting.{declares, outer_has}

-- ---- tests

both_and : (a b : Bool) → a ≡ true → b ≡ true → (a && b) ≡ true
both_and a b e other = rw (e, other) refl

and_both : (a b : Bool) → (a && b) ≡ true → (a ≡ true) × (b ≡ true)
and_both a b e = elim (cases_Bool a) [
  | inl yes_a ↦ (yes_a, rw yes_a at e)
  | inr not_a ↦ let never : false ≡ true = rw not_a at e in absurd (cc (never))
]

or_cases : (a b : Bool) → (a || b) ≡ true → (a ≡ true) ⊎ (b ≡ true)
or_cases a b e = elim (cases_Bool a) [
  | inl yes_a ↦ inl yes_a
  | inr not_a ↦ inr (rw not_a at e)
]

or_left : (a b : Bool) → a ≡ true → (a || b) ≡ true
or_left a b e = rw e refl

or_right : (a b : Bool) → b ≡ true → (a || b) ≡ true
or_right a b e = elim (cases_Bool a) [
  | inl yes_a ↦ rw yes_a refl
  | inr not_a ↦ rw not_a e
]

module _ {X : Type 0} where
  any_more : (p q : X → Bool) → ((x : X) → p x ≡ true → q x ≡ true) → (xs : List X) → list_any p xs ≡ true → list_any q xs ≡ true
  any_more p q more [] e = absurd (cc (e))
  any_more p q more (x ∷ xs) e = elim (or_cases (p x) (list_any p xs) e) [
    | inl here ↦ or_left (q x) (list_any q xs) (more x here)
    | inr later ↦ or_right (q x) (list_any q xs) (any_more p q more xs later)
  ]

  any_find : (p : X → Bool) (xs : List X) → is_some (find p xs) ≡ list_any p xs
  any_find p [] = refl
  any_find p (x ∷ xs) = elim (cases_Bool (p x)) [
    | inl here ↦ rw here refl
    | inr not_here ↦ rw not_here (any_find p xs)
  ]

  some_or : (a b : Option X) → is_some (option_or a b) ≡ (is_some a || is_some b)
  some_or (Some x) b = refl
  some_or None b = refl

some_map : {X Y : Type 0} (g : X → Y) (a : Option X) → is_some (option_map g a) ≡ is_some a
some_map g (Some x) = refl
some_map g None = refl

-- ---- packages

begun : (outer rest : List ℕ) → begins (outer ++ 46 ∷ rest) outer ≡ true
begun outer rest =
    let whole : starts_with nat_eq (outer ++ 46 ∷ rest) outer ≡ true = (bytes_eq-Decides outer (take (length outer) (outer ++ 46 ∷ rest))).1 (sym (take-append_seam outer (46 ∷ rest))) in
    let ends : ends_component (drop (length outer) (outer ++ 46 ∷ rest)) ≡ true = rw (drop-append_seam outer (46 ∷ rest)) refl in
    both_and (starts_with nat_eq (outer ++ 46 ∷ rest) outer) (ends_component (drop (length outer) (outer ++ 46 ∷ rest))) whole ends

begins_outer : (full outer name : List ℕ) → begins full (outer ++ 46 ∷ name) ≡ true → begins full outer ≡ true
begins_outer full outer name e =
    let parts = and_both (starts_with nat_eq full (outer ++ 46 ∷ name)) (ends_component (drop (length (outer ++ 46 ∷ name)) full)) e in
    let front : outer ++ 46 ∷ name ≡ take (length (outer ++ 46 ∷ name)) full = (bytes_eq-Decides (outer ++ 46 ∷ name) (take (length (outer ++ 46 ∷ name)) full)).0 parts.0 in
    let whole : (outer ++ 46 ∷ name) ++ drop (length (outer ++ 46 ∷ name)) full ≡ full = rw (← front) at (take-append-drop (length (outer ++ 46 ∷ name)) full) in
    let again : outer ++ 46 ∷ (name ++ drop (length (outer ++ 46 ∷ name)) full) ≡ full = sym (append_assoc outer (46 ∷ name) (drop (length (outer ++ 46 ∷ name)) full)) ∙ whole in
    subst (λ x. begins x outer ≡ true) again (begun outer (name ++ drop (length (outer ++ 46 ∷ name)) full))

package_outer : (outer name : List ℕ) → outer ≢ [] → (o : Option PackageFact) → is_within (joined outer name) o ≡ true → is_within outer o ≡ true
package_outer outer name some None e = absurd (cc (e))
package_outer [] name some (Some p) e = absurd (some refl)
package_outer (c ∷ outer) name some (Some p) e = begins_outer p.full_name (c ∷ outer) name e

-- ---- files

same_file : (g : ℕ) (r : DeclRef) → (r.file == g) ≡ true → r.file ≡ g
same_file g r e = (Decides-eqb r.file g).0 e

module _ (files : List NamedFacts) (view : List ℕ) where
  -- a file that is seen and passes a test
  passes : (has : ℕ → Bool) (g : ℕ) → is_seen view g ≡ true → has g ≡ true → list_any has view ≡ true
  passes has g seen there = any_more (λ h. h == g) has (λ h e. let same : h ≡ g = (Decides-eqb h g).0 e in rw same there) view seen

  -- one of the declarations is seen, with its file
  seen_file : (rs : List DeclRef) → list_any (λ r. is_seen view r.file) rs ≡ true → (g : ℕ) × (is_seen view g ≡ true) × (list_any (λ r. r.file == g) rs ≡ true)
  seen_file [] e = absurd (cc (e))
  seen_file (r ∷ rs) e = elim (or_cases (is_seen view r.file) (list_any (λ r. is_seen view r.file) rs) e) [
    | inl here ↦ (r.file, here, or_left (r.file == r.file) (list_any (λ q. q.file == r.file) rs) ((Decides-eqb r.file r.file).1 refl))
    | inr later ↦ let rest = seen_file rs later in (rest.0, rest.1, or_right (r.file == rest.0) (list_any (λ q. q.file == rest.0) rs) rest.2)
  ]

  package_is : (name : List ℕ) → is_some (package_found files view name) ≡ list_any (has_package files name) view
  package_is name = elim (cases_Bool (list_any (has_package files name) view)) [
    | inl there ↦ rw there refl
    | inr not_there ↦ rw not_there refl
  ]

  module _ (f : ℕ) where
    abbrev any_own : List ℕ → Bool
    any_own name = declares files name f

    abbrev any_seen : List ℕ → Bool
    any_seen name = list_any (λ r. is_seen view r.file) (all_named files name)

    found_is : (name : List ℕ) → is_some (found files f view name) ≡ ((any_own name || any_seen name) || list_any (has_package files name) view)
    found_is name =
        some_or (option_map Declared (first_declared f view (all_named files name))) (package_found files view name)
        ∙ rw (
          some_map Declared (first_declared f view (all_named files name)),
          some_or (find (λ r. r.file == f) (all_named files name)) (find (λ r. is_seen view r.file) (all_named files name)),
          any_find (λ r. r.file == f) (all_named files name),
          any_find (λ r. is_seen view r.file) (all_named files name),
          package_is name,
        ) refl

    seen_found : (name : List ℕ) → (any_seen name ≡ true) ⊎ (list_any (has_package files name) view ≡ true) → is_some (found files f view name) ≡ true
    seen_found name (inl declared) = rw (found_is name) (or_left (any_own name || any_seen name) (list_any (has_package files name) view) (or_right (any_own name) (any_seen name) declared))
    seen_found name (inr there) = rw (found_is name) (or_right (any_own name || any_seen name) (list_any (has_package files name) view) there)

    outer_seen : All (λ file. NamesNest file.facts) files → (outer name : List ℕ) → outer ≢ [] → (g : ℕ) → is_seen view g ≡ true → declares files (joined outer name) g ≡ true
        → (any_seen outer ≡ true) ⊎ (list_any (has_package files outer) view ≡ true)
    outer_seen nest outer name some g seen there = elim (outer_has files nest g outer name some there) [
      | inl declared ↦ inl (any_more (λ r. r.file == g) (λ r. is_seen view r.file) (λ r e. let same : r.file ≡ g = same_file g r e in subst (λ h. is_seen view h ≡ true) (sym same) seen) (all_named files outer) declared)
      | inr there_as_package ↦ inr (passes (has_package files outer) g seen there_as_package)
    ]

abbrev pub AreOutersFound : List NamedFacts → ℕ → List ℕ → Type 0
AreOutersFound files f view = (outer name : List ℕ) → outer ≢ [] → IsSome (found files f view (joined outer name)) → IsSome (found files f view outer)

pub outers_found : (files : List NamedFacts) (f : ℕ) (view : List ℕ) → All (λ file. NamesNest file.facts) files → is_seen view f ≡ true → AreOutersFound files f view
outers_found files f view nest own outer name some there =
    elim (or_cases (any_own files view f (joined outer name) || any_seen files view f (joined outer name)) (list_any (has_package files (joined outer name)) view) (rw (found_is files view f (joined outer name)) at there)) [
      | inl declared ↦ elim (or_cases (any_own files view f (joined outer name)) (any_seen files view f (joined outer name)) declared) [
        | inl here ↦ seen_found files view f outer (outer_seen files view f nest outer name some f own here)
        | inr elsewhere ↦
            let at = seen_file files view (all_named files (joined outer name)) elsewhere in
            seen_found files view f outer (outer_seen files view f nest outer name some at.0 at.1 at.2)
      ]
      | inr there_as_package ↦
          seen_found files view f outer (inr (any_more (has_package files (joined outer name)) (has_package files outer)
          (λ g e. package_outer outer name some (let facts = facts_at files g in facts.«package») e) view there_as_package))
    ]
