-- The files that have packages.
use Rattle.std.specs.Prelude.{◌≡◌, ℕ, ◌≤◌, All, length, List, [], ◌∷◌, ◌++◌, Option, Some, None}
use Rattle.std.specs.List.{enumerate_from, flat_map}
use Rattle.std.specs.List.Sorted.{IsPermutation, IsSorted}
use Rattle.std.specs.Cmp.Lexicographic.{slice_cmp}
use Rattle.std.specs.Ordering.{nat_cmp}
use Rattle.proto_decls.specs.declared.fact.PackageFact.{PackageFact}
use Rattle.proto_decls.specs.declared.named_facts.NamedFacts.{NamedFacts}
use Rattle.proto_names.specs.declared.packages.PackagedFile.{PackagedFile}
use Rattle.proto_names.specs.declared.moving.Change.TheVariants.{Comes}
use Rattle.proto_names.specs.Files.{has_package, is_seen}
use Rattle.proto_names.specs.Moved.{number_after}
use Rattle.proto_decls.specs.FullNames.{dot}

-- a file is listed where it has the package
abbrev pub AreThoseWith : List NamedFacts → List ℕ → List ℕ → Type 0
AreThoseWith files name list = (g : ℕ) → is_seen list g ≡ has_package files name g

-- a file with its package, if it has one
abbrev pub packaged : ℕ → Option PackageFact → List PackagedFile
packaged g None = []
packaged g (Some p) = record { name = p.full_name ++ dot ∷ []; file = g } ∷ []

-- all files that have packages
abbrev pub all_packaged : List NamedFacts → List PackagedFile
all_packaged files = flat_map (λ e. packaged e.0 (let facts = e.1.facts in facts.«package»)) (enumerate_from 0 files)

-- by their packages' names
abbrev pub AreByPackage : List PackagedFile → Type 0
AreByPackage list = IsSorted (λ a b. slice_cmp nat_cmp a.name b.name) list

-- no name is longer
abbrev pub AreNoLonger : ℕ → List PackagedFile → Type 0
AreNoLonger longest list = All (λ p. length p.name ≤ longest) list

-- the files that have packages, by these
pub record ArePackaged (files : List NamedFacts) (list : List PackagedFile) : Type 0 where
  pub all : IsPermutation (all_packaged files) list
  pub ordered : AreByPackage list

-- a file with its package, by the number that the file has once another comes to the place k
abbrev pub moved : ℕ → PackagedFile → PackagedFile
moved k p = record { name = p.name; file = number_after Comes k p.file }
