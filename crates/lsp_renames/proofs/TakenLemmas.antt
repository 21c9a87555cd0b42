-- What takes a full name, said without a search.
use Rattle.std.proofs.Common.{◌≡◌, ◌≢◌, ◌⊎◌, ◌+◌, ◌<◌, ℕ, zero, suc, List, [], ◌∷◌, ◌++◌, Bool, true, ◌&&◌, ◌||◌, not, Option, Some, None, inl, inr, filter, length, refl, sym, ap, ◌∙◌, arith}
use Rattle.std.specs.Prelude.{◌==◌, bytes_eq}
use Rattle.std.specs.List.{enumerate_from, list_any}
use Rattle.std.proofs.lemmas.Bool.{and_parts, and_from, cases_Bool, cases_eq, eq-eqb, eqb-true, false_from_ne_true, or_cases, or_left, or_right}
use Rattle.std.proofs.lemmas.Bool.Decides.{nat_tests}
use Rattle.std.proofs.lemmas.List.Folds.{Any-from_list_any, list_any-from_Any}
use Rattle.std.proofs.lemmas.Slice.Eq.{bytes_eq-Decides}
use Rattle.proto_decls.specs.declared.fact.PackageFact.{PackageFact}
use Rattle.proto_decls.specs.Nesting.{IsWithin}
use Rattle.proto_names.specs.declared.decl_ref.DeclRef.{DeclRef}
use Rattle.proto_names.specs.Files.{begins, is_within}
use Rattle.proto_decls.specs.FullNames.{dot}
use Rattle.proto_resolve.proofs.Meets.{begins_so}
use Rattle.work_index.specs.Workspace.{AnalysisData, decl_in}
use Rattle.lsp_queries.specs.Files.{package_in}
use Rattle.lsp_renames.specs.Renaming.{is_declared, is_other, is_package}
use Rattle.lsp_renames.specs.RenamingLaws.{HasAnother, IsPackage, TakenLaw}

-- ---- lists

any-filter : {X : Type 0} (test p : X → Bool) (xs : List X) → list_any test (filter p xs) ≡ list_any (λ x. p x && test x) xs
any-filter test p [] = refl
any-filter test p (x ∷ xs) = elim (cases_Bool (p x)) [
  | inl passes ↦ rw passes (ap (λ b. test x || b) (any-filter test p xs))
  | inr fails ↦ rw fails (any-filter test p xs)
]

-- a number from n on, below the length of a list, that passes a test
abbrev Numbered : (ℕ → Bool) → ℕ → ℕ → Type 0
Numbered test n count = (k : ℕ) × (k < count) × (test (n + k) ≡ true)

any-number : {X : Type 0} (test : ℕ → Bool) (n : ℕ) (xs : List X) → list_any (λ e. test e.0) (enumerate_from n xs) ≡ true → Numbered test n (length xs)
any-number test n [] found = absurd (cc (found))
any-number test n (x ∷ xs) found = elim (or_cases (test n) (list_any (λ e. test e.0) (enumerate_from (n + 1) xs)) found) [
  | inl here ↦ let same : n ≡ n + 0 = omega arith in (0, omega arith, ap test (sym same) ∙ here)
  | inr later ↦
      let rest = any-number test (n + 1) xs later in
      let same : n + suc rest.0 ≡ (n + 1) + rest.0 = omega arith in
      (suc rest.0, omega (arith, rest.1), ap test same ∙ rest.2)
]

pub number-any : {X : Type 0} (test : ℕ → Bool) (n : ℕ) (xs : List X) (k : ℕ) → k < length xs → test (n + k) ≡ true → list_any (λ e. test e.0) (enumerate_from n xs) ≡ true
number-any test n [] k within passes = absurd (omega (arith, within))
number-any test n (x ∷ xs) zero within passes =
    let same : n ≡ n + 0 = omega arith in
    or_left (test n) (list_any (λ e. test e.0) (enumerate_from (n + 1) xs)) (ap test same ∙ passes)
number-any test n (x ∷ xs) (suc k) within passes =
    let same : (n + 1) + k ≡ n + suc k = omega arith in
    or_right (test n) (list_any (λ e. test e.0) (enumerate_from (n + 1) xs)) (number-any test (n + 1) xs k (omega (arith, within)) (ap test same ∙ passes))

-- ---- declarations

other-is : (r s : DeclRef) → is_other r s ≡ true → s ≢ r
other-is r s other same =
    let both : ((s.file == r.file) && (s.number == r.number)) ≡ true = and_from (s.file == r.file) (s.number == r.number) (eq-eqb s.file r.file (ap (λ x. x.file) same)) (eq-eqb s.number r.number (ap (λ x. x.number) same)) in
    cc (other, ap not both)

is-other : (r s : DeclRef) → s ≢ r → is_other r s ≡ true
is-other r s other = ap not (false_from_ne_true ((s.file == r.file) && (s.number == r.number)) (λ both.
    let parts = and_parts (s.file == r.file) (s.number == r.number) both in
    let file = eqb-true s.file r.file parts.0 in
    let number = eqb-true s.number r.number parts.1 in
    other (λ t. record { file = file t; number = number t })))

module _ (a : AnalysisData) (r : DeclRef) (full_name : List ℕ) where
  abbrev name_of : DeclRef → List ℕ
  name_of s = let found = decl_in a.facts s in found.full_name

  abbrev has_name : DeclRef → Bool
  has_name s = bytes_eq (name_of s) full_name

  declared-said : is_declared a r full_name ≡ true → HasAnother a r full_name
  declared-said declared =
      let one = Any-from_list_any (λ s. has_name s && is_other r s) a.decls (sym (any-filter (is_other r) has_name a.decls) ∙ declared) in
      let parts = and_parts (has_name one.1) (is_other r one.1) one.4 in
      record { another = one.1; listed = (one.0, one.2, one.3); other = other-is r one.1 parts.1; named = (bytes_eq-Decides (name_of one.1) full_name).0 parts.0 }

  said-declared : HasAnother a r full_name → is_declared a r full_name ≡ true
  said-declared has =
      let named = (bytes_eq-Decides (name_of has.another) full_name).1 has.named in
      let both = and_from (has_name has.another) (is_other r has.another) named (is-other r has.another has.other) in
      let there = has.listed in
      any-filter (is_other r) has_name a.decls ∙ list_any-from_Any (λ s. has_name s && is_other r s) a.decls (there.0, has.another, there.1, there.2, both)

-- ---- packages

longer : (c x : ℕ) (whole name : List ℕ) → x ≡ c → (whole ≡ name) ⊎ ((rest : List ℕ) × (whole ≡ name ++ dot ∷ rest))
    → (c ∷ whole ≡ x ∷ name) ⊎ ((rest : List ℕ) × (c ∷ whole ≡ (x ∷ name) ++ dot ∷ rest))
longer c x whole name same (inl equal) = inl (rw (same, equal) refl)
longer c x whole name same (inr more) = inr (more.0, rw (same, more.1) refl)

begins-said : (whole name : List ℕ) → begins whole name ≡ true → (whole ≡ name) ⊎ ((rest : List ℕ) × (whole ≡ name ++ dot ∷ rest))
begins-said [] [] so = inl refl
begins-said (c ∷ whole) [] so = let same : c ≡ dot = eqb-true c dot so in inr (whole, ap (λ x. x ∷ whole) same)
begins-said [] (x ∷ name) so = absurd (cc (so))
begins-said (c ∷ whole) (x ∷ name) so = elim (cases_eq x c) [
  | inl same ↦
      let rest : begins whole name ≡ true = grind (arith, nat_tests) in
      longer c x whole name same (begins-said whole name rest)
  | inr other ↦ absurd (grind (arith, nat_tests))
]

within-said : (name : List ℕ) (o : Option PackageFact) → is_within name o ≡ true → IsWithin name o
within-said name None so = absurd (cc (so))
within-said name (Some p) so = begins-said p.full_name name so

said-within : (name : List ℕ) (o : Option PackageFact) → IsWithin name o → is_within name o ≡ true
said-within name None said = absurd said
said-within name (Some p) said = begins_so p.full_name name said

module _ (a : AnalysisData) (full_name : List ℕ) where
  abbrev has_package : ℕ → Bool
  has_package file = is_within full_name (package_in a file)

  package-said : is_package a full_name ≡ true → IsPackage a full_name
  package-said so =
      let one = any-number has_package 0 a.paths so in
      let same : 0 + one.0 ≡ one.0 = omega arith in
      record { file = one.0; there = one.1; within = within-said full_name (package_in a one.0) (ap has_package (sym same) ∙ one.2) }

  said-package : IsPackage a full_name → is_package a full_name ≡ true
  said-package said =
      let same : 0 + said.file ≡ said.file = omega arith in
      number-any has_package 0 a.paths said.file said.there (ap has_package same ∙ said-within full_name (package_in a said.file) said.within)

pub taken-law : TakenLaw
taken-law a r full_name = (
  λ taken. elim (or_cases (is_declared a r full_name) (is_package a full_name) taken) [
    | inl declared ↦ inl (declared-said a r full_name declared)
    | inr so ↦ inr (package-said a full_name so)
  ],
  λ said. elim said [
    | inl has ↦ or_left (is_declared a r full_name) (is_package a full_name) (said-declared a r full_name has)
    | inr so ↦ or_right (is_declared a r full_name) (is_package a full_name) (said-package a full_name so)
  ],
)
