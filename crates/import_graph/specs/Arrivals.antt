-- One more file among others, none of which imports it.
use Rattle.std.specs.Prelude.{◌≡◌, ◌<◌, ◌≤◌, ◌+◌, ℕ, List, Option, Some, All, bytes_eq, false, length}
use Rattle.std.specs.List.{insert}
use Rattle.import_graph.specs.declared.imports.FileImports.{FileImports}
use Rattle.proto_decls.specs.declared.named_facts.NamedFacts.{NamedFacts}
use Rattle.import_graph.specs.Imports.{graph_of}
use Rattle.import_graph.specs.Moves.{IsMovedOutlook, place}
use Rattle.import_graph.specs.Outlooks.{outlook}

-- no import of the files has the path
abbrev pub NobodyImports : List NamedFacts → List ℕ → Type 0
NobodyImports files path = All (λ file. All (λ i. bytes_eq i.path path ≡ false) (let facts = file.facts in facts.imports)) files

-- the new numbers of n files, once another comes to the place k: those before it keep theirs, and those from there on get one more
pub record MakesRoom (to : List (Option ℕ)) (n k : ℕ) : Type 0 where
  pub within : k ≤ n
  pub front : (g : ℕ) → g < k → place to g ≡ Some g
  pub behind : (g : ℕ) → k ≤ g → g < n → place to g ≡ Some (g + 1)

-- where another file comes among files, none of which imports its path, the imports say of these what they said, under the new numbers
abbrev pub ArrivalLaw : Type 0
ArrivalLaw = (files : List NamedFacts) (at : ℕ) (file : NamedFacts) (to : List (Option ℕ)) (f f' : ℕ)
    → NobodyImports files file.path → MakesRoom to (length files) at → f < length files → place to f ≡ Some f'
    → IsMovedOutlook to (outlook (graph_of files) f) (outlook (graph_of (insert files at file)) f')

-- the file of the number k came to others, whose graph this was and of which none imports it
pub record HasArrived (files : List NamedFacts) (k : ℕ) (graph : List FileImports) : Type 0 where
  pub others : List NamedFacts
  pub file : NamedFacts
  pub within : k ≤ length others
  pub files_are : files ≡ insert others k file
  pub was : graph ≡ graph_of others
  pub nobody : NobodyImports others file.path
