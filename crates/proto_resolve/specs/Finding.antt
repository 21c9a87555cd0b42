-- What a file finds at a full name, said without a search. A file is its number in the list of all files, by path.
use Rattle.std.specs.Prelude.{◌≡◌, ◌⊎◌, ℕ, ◌<◌, List, ◌∷◌, ◌++◌, Option, Some, None, length}
use Rattle.proto_decls.specs.declared.fact.PackageFact.{PackageFact}
use Rattle.proto_decls.specs.declared.named_facts.NamedFacts.{NamedFacts}
use Rattle.import_graph.specs.Imports.{graph_of}
use Rattle.import_graph.specs.Views.{Sees}
use Rattle.proto_names.specs.declared.decl_ref.DeclRef.{DeclRef}
use Rattle.proto_resolve.specs.declared.target.Target.{Target}
use Rattle.proto_resolve.specs.declared.target.Target.TheVariants.{Declared, Package}
use Rattle.proto_names.specs.Files.{decls_at, package_at, name_at}
use Rattle.proto_decls.specs.FullNames.{dot}

-- a declaration of the name in a file that f sees
pub record IsSeenAs (files : List NamedFacts) (f : ℕ) (name : List ℕ) (r : DeclRef) : Type 0 where
  pub seen : Sees (graph_of files) f r.file
  pub there : r.number < length (decls_at files r.file)
  pub named : name_at files r ≡ name

-- the declarations of f itself come before those of other files, which are by path; those of one file are by offset
pub data ComesBefore (f : ℕ) (r s : DeclRef) : Type 0 where
  own_file : r.file ≡ f → ¬ (s.file ≡ f) → ComesBefore f r s
  by_path : ¬ (s.file ≡ f) → r.file < s.file → ComesBefore f r s
  by_offset : r.file ≡ s.file → r.number < s.number → ComesBefore f r s

-- the first of them
pub record IsFirst (files : List NamedFacts) (f : ℕ) (name : List ℕ) (r : DeclRef) : Type 0 where
  pub seen : IsSeenAs files f name r
  pub first : (s : DeclRef) → IsSeenAs files f name s → (s ≡ r) ⊎ ComesBefore f r s

abbrev pub IsUndeclared : List NamedFacts → ℕ → List ℕ → Type 0
IsUndeclared files f name = (r : DeclRef) → ¬ IsSeenAs files f name r

-- the file's package is the name, or lies in it
pub record HasPackage (files : List NamedFacts) (name : List ℕ) (g : ℕ) : Type 0 where
  pub fact : PackageFact
  pub stated : package_at files g ≡ Some fact
  pub within : (fact.full_name ≡ name) ⊎ ((rest : List ℕ) × (fact.full_name ≡ name ++ dot ∷ rest))

-- what f finds at a full name: the first declaration; where there is none, the package if a file that f sees has it
abbrev pub Finds : List NamedFacts → ℕ → List ℕ → Option Target → Type 0
Finds files f name (Some (Declared r)) = IsFirst files f name r
Finds files f name (Some (Package p)) = (p ≡ name) × IsUndeclared files f name × ((g : ℕ) × Sees (graph_of files) f g × HasPackage files name g)
Finds files f name None = IsUndeclared files f name × ((g : ℕ) → Sees (graph_of files) f g → ¬ HasPackage files name g)
