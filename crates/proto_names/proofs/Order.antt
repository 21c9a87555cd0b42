-- All declarations by path, then offset.
use Rattle.std.proofs.Common.{◌≡◌, sym, inl, inr, ℕ, suc, ◌+◌, ◌<◌, ◌≤◌, List, [], ◌∷◌, ◌++◌, get_or, map, refl, arith}
use Rattle.std.specs.Prelude.{All, ◌⊎◌, bytes_eq}
use Rattle.std.specs.List.{enumerate_from, flat_map, AllPairs}
use Rattle.std.specs.List.Sorted.{IsNonDecreasingBy}
use Rattle.std.proofs.lemmas.Bool.{cases_eq}
use Rattle.std.proofs.lemmas.List.Elements.{All-nil, All-head, All-tail, All-cons, All-append, All-weaker}
use Rattle.std.proofs.lemmas.List.Kept.{AllPairs-cons, AllPairs-filter}
use Rattle.proto_decls.specs.declared.named_facts.NamedFacts.{NamedFacts}
use Rattle.proto_decls.specs.declared.fact.Decl.{Decl}
use Rattle.proto_names.specs.declared.decl_ref.DeclRef.{DeclRef}
use Rattle.proto_names.specs.Files.{all_decls, all_named, decl_at, refs_of}

-- by path, then offset
abbrev pub Earlier : DeclRef → DeclRef → Type 0
Earlier r s = (r.file < s.file) ⊎ ((r.file ≡ s.file) × (r.number < s.number))

abbrev Rises : List DeclRef → Type 0
Rises rs = AllPairs Earlier rs

rises_nil : Rises []
rises_nil i j d lt within = absurd (omega (arith, within))

rest : (r : DeclRef) (rs : List DeclRef) → Rises (r ∷ rs) → Rises rs
rest r rs up i j d lt within = up (suc i) (suc j) d (omega (arith, lt)) (omega (arith, within))

first : (r : DeclRef) (rs : List DeclRef) → Rises (r ∷ rs) → All (Earlier r) rs
first r rs up k d lt = up 0 (suc k) d (omega arith) (omega (arith, lt))

joined : (rs ss : List DeclRef) → Rises rs → Rises ss → All (λ r. All (Earlier r) ss) rs → Rises (rs ++ ss)
joined [] ss up down all = down
joined (r ∷ rs) ss up down all =
    AllPairs-cons Earlier r (rs ++ ss) (All-append (Earlier r) rs ss (first r rs up) (All-head (λ r. All (Earlier r) ss) r rs all))
    (joined rs ss (rest r rs up) down (All-tail (λ r. All (Earlier r) ss) r rs all))

abbrev pub numbered : ℕ → ℕ × Decl → DeclRef
numbered f d = record { file = f; number = d.0 }

abbrev pub IsFrom : ℕ → ℕ → DeclRef → Type 0
IsFrom f n r = (r.file ≡ f) × (n ≤ r.number)

pub refs_from : (f n : ℕ) (decls : List Decl) → All (IsFrom f n) (map (numbered f) (enumerate_from n decls))
refs_from f n [] = All-nil (IsFrom f n)
refs_from f n (d ∷ ds) = All-cons (IsFrom f n) (numbered f (n, d)) (map (numbered f) (enumerate_from (n + 1) ds)) (refl, omega arith)
    (All-weaker (IsFrom f (n + 1)) (IsFrom f n) (λ r there. (there.0, omega (arith, there.1))) (map (numbered f) (enumerate_from (n + 1) ds)) (refs_from f (n + 1) ds))

refs_rise : (f n : ℕ) (decls : List Decl) → Rises (map (numbered f) (enumerate_from n decls))
refs_rise f n [] = rises_nil
refs_rise f n (d ∷ ds) = AllPairs-cons Earlier (numbered f (n, d)) (map (numbered f) (enumerate_from (n + 1) ds))
    (All-weaker (IsFrom f (n + 1)) (Earlier (numbered f (n, d))) (λ r there. inr (sym there.0, omega (arith, there.1))) (map (numbered f) (enumerate_from (n + 1) ds)) (refs_from f (n + 1) ds))
    (refs_rise f (n + 1) ds)

abbrev pub refs : ℕ × NamedFacts → List DeclRef
refs e = refs_of e.0 (let facts = e.1.facts in facts.decls)

pub files_from : (n : ℕ) (files : List NamedFacts) → All (λ r. n ≤ r.file) (flat_map refs (enumerate_from n files))
files_from n [] = All-nil (λ r. n ≤ r.file)
files_from n (f ∷ fs) = All-append (λ r. n ≤ r.file) (refs (n, f)) (flat_map refs (enumerate_from (n + 1) fs))
    (All-weaker (IsFrom n 0) (λ r. n ≤ r.file) (λ r there. omega (arith, there.0)) (refs (n, f)) (refs_from n 0 (let facts = f.facts in facts.decls)))
    (All-weaker (λ r. n + 1 ≤ r.file) (λ r. n ≤ r.file) (λ r le. omega (arith, le)) (flat_map refs (enumerate_from (n + 1) fs)) (files_from (n + 1) fs))

files_rise : (n : ℕ) (files : List NamedFacts) → Rises (flat_map refs (enumerate_from n files))
files_rise n [] = rises_nil
files_rise n (f ∷ fs) = joined (refs (n, f)) (flat_map refs (enumerate_from (n + 1) fs)) (refs_rise n 0 (let facts = f.facts in facts.decls)) (files_rise (n + 1) fs)
    (All-weaker (IsFrom n 0) (λ r. All (Earlier r) (flat_map refs (enumerate_from (n + 1) fs)))
    (λ r there. All-weaker (λ s. n + 1 ≤ s.file) (Earlier r) (λ s le. inl (omega (arith, there.0, le))) (flat_map refs (enumerate_from (n + 1) fs)) (files_from (n + 1) fs))
    (refs (n, f)) (refs_from n 0 (let facts = f.facts in facts.decls)))

-- the declarations of a name are by path, then offset
pub named_rise : (files : List NamedFacts) (name : List ℕ) → AllPairs Earlier (all_named files name)
named_rise files name = AllPairs-filter Earlier (λ r. bytes_eq (let d = decl_at files r in d.full_name) name) (all_decls files) (files_rise 0 files)

at_most : (r s : DeclRef) → Earlier r s → r.file ≤ s.file
at_most r s (inl lt) = omega (arith, lt)
at_most r s (inr both) = omega (arith, both.0)

-- so they are by file
pub by_file : (rs : List DeclRef) → AllPairs Earlier rs → IsNonDecreasingBy (λ r. r.file) rs
by_file rs up i j d le lt = elim (cases_eq i j) [
  | inl equal ↦ rw equal (omega arith)
  | inr other ↦ at_most (get_or rs i d) (get_or rs j d) (up i j d (omega (arith, le, other)) lt)
]

pub named_by_file : (files : List NamedFacts) (name : List ℕ) → IsNonDecreasingBy (λ r. r.file) (all_named files name)
named_by_file files name = by_file (all_named files name) (named_rise files name)
