-- What the declarations of a file lie in, by the tests of a search.
use Rattle.std.proofs.Common.{◌≡◌, ◌∙◌, ap, subst, inl, inr, ⊎_elim, ℕ, zero, suc, ◌<◌, ◌==◌, List, [], ◌∷◌, Bool, true, Option, Some, None, length, get_or, refl}
use Rattle.std.specs.Prelude.{◌≢◌, ◌⊎◌, All}
use Rattle.std.specs.List.{Any, list_any}
use Rattle.std.proofs.lemmas.Bool.{cases_Bool}
use Rattle.std.proofs.lemmas.Bool.Decides.{Decides-eqb}
use Rattle.std.proofs.lemmas.List.{get_or_default}
use Rattle.std.proofs.lemmas.List.Elements.{All-head, All-nil, All-tail}
use Rattle.proto_decls.specs.Nesting.{IsWithin, HasOuterNames, NamesNest}
use Rattle.proto_decls.specs.Text.{joined}
use Rattle.proto_decls.specs.declared.fact.PackageFact.{PackageFact}
use Rattle.proto_decls.specs.declared.named_facts.NamedFacts.{NamedFacts}
use Rattle.proto_names.specs.declared.decl_ref.DeclRef.{DeclRef}
use Rattle.proto_names.specs.Files.{all_named, decl_at, decls_at, facts_at, has_package, is_within, no_decl, no_facts}
use Rattle.proto_resolve.proofs.Firsts.{agrees}
use Rattle.proto_resolve.proofs.Meets.{begins_so, in_all_named, in_named}
use Rattle.proto_resolve.proofs.Members.{In}

-- a test that one of a list passes
module _ {X : Type 0} (p : X → Bool) where
  one_passes : (xs : List X) → list_any p xs ≡ true → (x : X) × In x xs × (p x ≡ true)
  one_passes [] e = absurd (cc (e))
  one_passes (x ∷ xs) e = elim (cases_Bool (p x)) [
    | inl passes ↦ (x, inl refl, passes)
    | inr fails ↦ let rest = one_passes xs (rw fails at e) in (rest.0, inr rest.1, rest.2)
  ]

  passes_one : (xs : List X) (x : X) → In x xs → p x ≡ true → list_any p xs ≡ true
  passes_one [] x there e = elim there [ ]
  passes_one (y ∷ xs) x (inl same) e = let passes : p y ≡ true = rw same e in rw passes refl
  passes_one (y ∷ xs) x (inr later) e = elim (cases_Bool (p y)) [
    | inl passes ↦ rw passes refl
    | inr fails ↦ rw fails (passes_one xs x later e)
  ]

-- whether a file declares a full name
abbrev pub declares : List NamedFacts → List ℕ → ℕ → Bool
declares files name g = list_any (λ r. r.file == g) (all_named files name)

module _ (files : List NamedFacts) (name : List ℕ) (g : ℕ) where
  abbrev IsDeclared : Type 0
  IsDeclared = Any (λ d. d.full_name ≡ name) (decls_at files g)

  declared_by : (r : DeclRef) → r.file ≡ g → r.number < length (decls_at files r.file) → (let d = decl_at files r in d.full_name) ≡ name → IsDeclared
  declared_by r same there named =
      subst (λ h. Any (λ d. d.full_name ≡ name) (decls_at files h)) same
      (r.number, decl_at files r, there, get_or_default (decls_at files r.file) r.number (decl_at files r) no_decl there, named)

  declared_so : declares files name g ≡ true → IsDeclared
  declared_so e =
      let one = one_passes (λ r. r.file == g) (all_named files name) e in
      let there = in_named files name one.0 one.1 in
      declared_by one.0 ((Decides-eqb (let r : DeclRef = one.0 in r.file) g).0 one.2) there.0 there.1

  so_declared : IsDeclared → declares files name g ≡ true
  so_declared (k, d, there, is, named) =
      let r : DeclRef = record { file = g; number = k } in
      let full_name : (let d = decl_at files r in d.full_name) ≡ name = ap (λ d. d.full_name) (get_or_default (decls_at files g) k no_decl d there ∙ is) ∙ named in
      passes_one (λ r. r.file == g) (all_named files name) r (in_all_named files name r there full_name) (agrees g g refl)

within_so : (name : List ℕ) (o : Option PackageFact) → IsWithin name o → is_within name o ≡ true
within_so name None there = elim there [ ]
within_so name (Some p) there = begins_so p.full_name name there

-- the file of a number, or what says nothing
nests_at : (files : List NamedFacts) (g : ℕ) → All (λ file. NamesNest file.facts) files → NamesNest (facts_at files g)
nests_at [] g nest = All-nil (λ d. HasOuterNames no_facts d.full_name)
nests_at (x ∷ files) zero nest = All-head (λ file. NamesNest file.facts) x files nest
nests_at (x ∷ files) (suc g) nest = nests_at files g (All-tail (λ file. NamesNest file.facts) x files nest)

-- a file that declares a full name inside an outer one declares the outer one too, or has it as a package
pub outer_has : (files : List NamedFacts) → All (λ file. NamesNest file.facts) files → (g : ℕ) (outer name : List ℕ) → outer ≢ [] → declares files (joined outer name) g ≡ true
    → (declares files outer g ≡ true) ⊎ (has_package files outer g ≡ true)
outer_has files nest g outer name some e =
    let (k, d, there, is, named) = declared_so files (joined outer name) g e in
    let lies : HasOuterNames (facts_at files g) (let d = get_or (decls_at files g) k d in d.full_name) = nests_at files g nest k d there in
    ⊎_elim (λ declared. inl (so_declared files outer g declared)) (λ within. inr (within_so outer (let facts = facts_at files g in facts.«package») within))
    (lies outer name some (ap (λ d. d.full_name) is ∙ named))
