-- The files that have packages, and those that a file sees among them.
use Rattle.std.proofs.Common.{◌≡◌, ◌∙◌, sym, ap, ap₂, inl, inr, refl, ℕ, zero, suc, ◌+◌, ◌<◌, ◌≤◌, ◌==◌, length, List, [], ◌∷◌, ◌++◌, Bool, true, false, ◌&&◌, ◌||◌, Option, Some, None, get_or, map, arith}
use Rattle.std.specs.Prelude.{nat_eq}
use Rattle.std.specs.List.{enumerate_from, flat_map, list_any, starts_with}
use Rattle.std.proofs.lemmas.Bool.{cases_eq}
use Rattle.std.proofs.lemmas.Bool.Decides.{nat_tests}
use Rattle.std.proofs.lemmas.List.{length_push}
use Rattle.std.proofs.lemmas.List.Elements.{All-push, All-weaker}
use Rattle.std.proofs.lemmas.List.Folds.{list_any-append, list_any_none}
use Rattle.std.proofs.lemmas.List.Sorted.{list_any-IsPermutation}
use Rattle.proto_decls.specs.declared.fact.PackageFact.{PackageFact}
use Rattle.proto_decls.specs.declared.named_facts.NamedFacts.{NamedFacts}
use Rattle.proto_names.specs.declared.packages.PackagedFile.{PackagedFile}
use Rattle.proto_names.specs.Files.{begins, has_package, is_within, is_seen}
use Rattle.proto_decls.specs.FullNames.{dot}
use Rattle.proto_names.specs.Packages.{all_packaged, packaged, AreNoLonger, ArePackaged, AreThoseWith}
use Rattle.proto_names.proofs.Alike.{any_agree}
use Rattle.proto_names.proofs.Prefixes.{alone, any_map, dotted}

unlike : (a b : ℕ) → (a ≡ b → ⊥) → (a == b) ≡ false
unlike a b other = grind (arith, nat_tests)

turned : (a b : ℕ) → (a == b) ≡ (b == a)
turned a b = elim (cases_eq a b) [
  | inl equal ↦ rw equal refl
  | inr other ↦ unlike a b other ∙ sym (unlike b a (λ e. other (sym e)))
]

never : (b : Bool) → (b && false) ≡ false
never true = refl
never false = refl

always : (b : Bool) → (b && true) ≡ b
always true = refl
always false = refl

module _ (name : List ℕ) where
  -- a file's package begins with the name
  abbrev has : PackagedFile → Bool
  has p = starts_with nat_eq p.name (name ++ dot ∷ [])

  abbrev has_at : ℕ → PackagedFile → Bool
  has_at g p = has p && (p.file == g)

  one : (g n : ℕ) (o : Option PackageFact) → list_any (has_at g) (packaged n o) ≡ (is_within name o && (n == g))
  one g n None = refl
  one g n (Some p) = rw (dotted p.full_name name) (alone (begins p.full_name name && (n == g)))

  abbrev entry : ℕ × NamedFacts → List PackagedFile
  entry e = packaged e.0 (let facts = e.1.facts in facts.«package»)

  abbrev from : ℕ → List NamedFacts → List PackagedFile
  from n files = flat_map entry (enumerate_from n files)

  abbrev own : NamedFacts → Bool
  own x = is_within name (let facts = x.facts in facts.«package»)

  step : (g n : ℕ) (x : NamedFacts) (files : List NamedFacts) → list_any (has_at g) (from n (x ∷ files)) ≡ ((own x && (n == g)) || list_any (has_at g) (from (n + 1) files))
  step g n x files =
      list_any-append (has_at g) (entry (n, x)) (from (n + 1) files)
      ∙ ap (λ b. b || list_any (has_at g) (from (n + 1) files)) (one g n (let facts = x.facts in facts.«package»))

  other : (g n : ℕ) (x : NamedFacts) (files : List NamedFacts) → (n ≡ g → ⊥) → list_any (has_at g) (from n (x ∷ files)) ≡ list_any (has_at g) (from (n + 1) files)
  other g n x files apart =
      step g n x files ∙ ap (λ b. (own x && b) || list_any (has_at g) (from (n + 1) files)) (unlike n g apart)
      ∙ ap (λ b. b || list_any (has_at g) (from (n + 1) files)) (never (own x))

  none_before : (files : List NamedFacts) (n g : ℕ) → g < n → list_any (has_at g) (from n files) ≡ false
  none_before [] n g lt = refl
  none_before (x ∷ files) n g lt = other g n x files (λ e. omega (arith, lt, e)) ∙ none_before files (n + 1) g (omega (arith, lt))

  has_there : (files : List NamedFacts) (n k : ℕ) → list_any (has_at (n + k)) (from n files) ≡ has_package files name k
  has_there [] n k = refl
  has_there (x ∷ files) n zero =
      let here : n + 0 ≡ n = omega arith in
      let itself : (n == n) ≡ true = grind (arith, nat_tests) in
      ap (λ g. list_any (has_at g) (from n (x ∷ files))) here
      ∙ step n n x files
      ∙ ap₂ (λ a b. (own x && a) || b) itself (none_before files (n + 1) n (omega arith))
      ∙ alone (own x && true) ∙ always (own x)
  has_there (x ∷ files) n (suc k) =
      let next : n + suc k ≡ (n + 1) + k = omega arith in
      other (n + suc k) n x files (λ e. omega (arith, e))
      ∙ ap (λ g. list_any (has_at g) (from (n + 1) files)) next
      ∙ has_there files (n + 1) k

  -- of files by their packages, those that begin with the name are those that have it
  pub those_with : (files : List NamedFacts) (list these : List PackagedFile) → ArePackaged files list
      → ((test : PackagedFile → Bool) → list_any test these ≡ list_any (λ p. has p && test p) list) → AreThoseWith files name (map (λ p. p.file) these)
  those_with files list these are found g =
      let start : g ≡ 0 + g = omega arith in
      any_map (λ h. h == g) (λ p. p.file) these ∙ found (λ p. p.file == g)
      ∙ sym (list_any-IsPermutation (has_at g) (all_packaged files) list are.all)
      ∙ ap (λ h. list_any (has_at h) (from 0 files)) start ∙ has_there files 0 g

-- ---- those that a file sees

either : (p q : ℕ → Bool) (xs : List ℕ) → list_any (λ x. p x || q x) xs ≡ (list_any p xs || list_any q xs)
either p q [] = refl
either p q (x ∷ xs) = rw (either p q xs) (mixed (p x) (q x) (list_any p xs) (list_any q xs))
  where
    mixed : (a b c d : Bool) → ((a || b) || (c || d)) ≡ ((a || c) || (b || d))
    mixed true b c d = refl
    mixed false true true d = refl
    mixed false true false d = refl
    mixed false false true d = refl
    mixed false false false d = refl

nobody : (xs : List ℕ) → list_any (λ x. false) xs ≡ false
nobody [] = refl
nobody (x ∷ xs) = nobody xs

-- two lists have an element in common, whichever is walked
common : (v xs : List ℕ) → list_any (is_seen v) xs ≡ list_any (is_seen xs) v
common v [] = sym (nobody v)
common v (x ∷ xs) =
    ap₂ (λ a b. a || b) (any_agree (λ h. h == x) (λ h. x == h) v (λ k d lt. turned (get_or v k d) x)) (common v xs)
    ∙ sym (either (λ h. x == h) (is_seen xs) v)

-- a file sees one of those that have the package where one of those that it sees has it
pub sees_one : (files : List NamedFacts) (name v : List ℕ) (these : List PackagedFile) → AreThoseWith files name (map (λ p. p.file) these)
    → list_any (λ p. is_seen v p.file) these ≡ list_any (has_package files name) v
sees_one files name v these are =
    sym (any_map (is_seen v) (λ p. p.file) these) ∙ common v (map (λ p. p.file) these)
    ∙ any_agree (is_seen (map (λ p. p.file) these)) (has_package files name) v (λ k d lt. are (get_or v k d))

-- one more name, and the longest then
pub one_longer : (longest now : ℕ) (list : List PackagedFile) (p : PackagedFile) → AreNoLonger longest list → longest ≤ now → length p.name ≤ now → AreNoLonger now (list ++ p ∷ [])
one_longer longest now list p before up fits =
    All-push (λ q. length q.name ≤ now) list p (All-weaker (λ q. length q.name ≤ longest) (λ q. length q.name ≤ now) (λ q le. omega (arith, le, up)) list before) fits

-- no shorter text begins with a name and a dot
starts_short : (p q : List ℕ) → length p < length q → starts_with nat_eq p q ≡ false
starts_short p [] lt = absurd (omega (arith, lt))
starts_short [] (k ∷ q) lt = refl
starts_short (y ∷ p) (k ∷ q) lt = rw (starts_short p q (omega (arith, lt))) (never (nat_eq k y))

pub too_long : (name : List ℕ) (longest : ℕ) (list : List PackagedFile) (test : PackagedFile → Bool) → AreNoLonger longest list → longest ≤ length name
    → list_any (λ p. has name p && test p) list ≡ false
too_long name longest list test shorter le =
    list_any_none (λ p. has name p && test p) list (λ k d lt.
    let fits = shorter k d lt in
    let p : PackagedFile = get_or list k d in
    let fails : has name p ≡ false = starts_short p.name (name ++ dot ∷ []) (omega (arith, fits, le, length_push name dot)) in
    ap (λ b. b && test p) fails)
