-- What the names of a workspace stand for, and the numbers of what is wrong in it, whatever the offsets.
use Rattle.std.specs.Prelude.{◌≡◌, ◌↔◌, ℕ, ◌==◌, ◌&&◌, List, Bool, true, false, Some, map, bytes_eq}
use Rattle.std.specs.Cmp.Lexicographic.{pointwise}
use Rattle.std.specs.List.{slice_get}
use Rattle.proto_decls.specs.Problems.{code}
use Rattle.proto_decls.specs.declared.diagnostic.Diag.{Diag}
use Rattle.proto_resolve.specs.declared.resolve.Links.{Links}
use Rattle.proto_resolve.specs.declared.target.Target.{Target}
use Rattle.proto_resolve.specs.declared.target.Target.TheVariants.{Declared, Package}
use Rattle.proto_resolve.specs.declared.uses.NameUse.{NameUse}
use Rattle.work_index.specs.Workspace.{AnalysisData}

-- a use by the number of its name in the file, with what it stands for: a declaration by its file and its number there, or a package by its
-- full name
abbrev pub bound : NameUse → ℕ × Target
bound u = (u.name, u.target)

-- what the names of a file stand for
abbrev pub bindings_in : Links → List (ℕ × Target)
bindings_in links = map bound links.uses

-- the numbers of its diagnostics
abbrev pub codes_in : List Diag → List ℕ
codes_in diags = map (λ d. code d.message) diags

-- both for each file, by path
abbrev pub bindings : AnalysisData → List (List (ℕ × Target))
bindings a = map bindings_in a.links

abbrev pub codes : AnalysisData → List (List ℕ)
codes a = map codes_in a.diagnostics

-- names stand for the same, file by file, and what is wrong has the same numbers
pub record SameMeaning (a b : AnalysisData) : Type 0 where
  pub bindings_are : bindings a ≡ bindings b
  pub codes_are : codes a ≡ codes b

-- so it is in one file (for proofs)
pub record SameInFile (a b : AnalysisData) (file : ℕ) : Type 0 where
  pub bindings_are : slice_get (bindings a) file ≡ slice_get (bindings b) file
  pub codes_are : slice_get (codes a) file ≡ slice_get (codes b) file

-- a file means what these links and diagnostics of it say: its names stand for the same, and what is wrong has the same numbers
pub record Means (a : AnalysisData) (file : ℕ) (links : Links) (diagnostics : List Diag) : Type 0 where
  pub bindings_are : slice_get (bindings a) file ≡ Some (bindings_in links)
  pub codes_are : slice_get (codes a) file ≡ Some (codes_in diagnostics)

-- ---- the same as a test

abbrev pub same_target : Target → Target → Bool
same_target (Declared r) (Declared s) = (r.file == s.file) && (r.number == s.number)
same_target (Package p) (Package q) = bytes_eq p q
same_target _ _ = false

abbrev pub same_bound : ℕ × Target → ℕ × Target → Bool
same_bound a b = (a.0 == b.0) && same_target a.1 b.1

abbrev pub same_meaning : AnalysisData → AnalysisData → Bool
same_meaning a b = pointwise (pointwise same_bound) (bindings a) (bindings b) && pointwise bytes_eq (codes a) (codes b)

-- the test says whether it is so
abbrev pub SameMeaningLaw : Type 0
SameMeaningLaw = (a b : AnalysisData) → (same_meaning a b ≡ true) ↔ SameMeaning a b
