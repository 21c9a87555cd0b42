-- What the imports of files name.
use Rattle.std.specs.Prelude.{ℕ, List, [], Bool, true, false, Option, Some, None, slice_index_or, map, filter, not}
use Rattle.std.specs.List.{filter_map, list_all}
use Rattle.proto_decls.specs.declared.fact.FileFacts.{FileFacts}
use Rattle.proto_decls.specs.declared.fact.ImportFact.{ImportFact}
use Rattle.proto_decls.specs.declared.fact.SyntaxFact.{SyntaxFact}
use Rattle.proto_decls.specs.declared.fact.SyntaxFact.TheVariants.{Proto3, Other, Opaque}
use Rattle.proto_decls.specs.declared.named_facts.NamedFacts.{NamedFacts}
use Rattle.import_graph.specs.declared.imports.ImportEdge.{ImportEdge}
use Rattle.import_graph.specs.declared.imports.FileImports.{FileImports}
use Rattle.import_graph.specs.Paths.{file_named}

abbrev pub is_opaque : SyntaxFact → Bool
is_opaque Proto3 = false
is_opaque Other = false
is_opaque Opaque = true

-- an import, with the file that it names
abbrev pub edge_of : List NamedFacts → ImportFact → ImportEdge
edge_of files i = record { target = file_named files i.path; is_public = i.is_public }

abbrev pub imports_of : List NamedFacts → FileFacts → FileImports
imports_of files facts = record { edges = map (edge_of files) facts.imports; is_opaque = is_opaque facts.syntax }

-- what the imports of each file name
abbrev pub graph_of : List NamedFacts → List FileImports
graph_of files = map (λ f. imports_of files f.facts) files

-- the imports of a file, by its number
abbrev pub edges_at : List FileImports → ℕ → List ImportEdge
edges_at graph f = slice_index_or (map (λ file. file.edges) graph) f []

-- what an import names, by its number
abbrev pub target_at : List FileImports → ℕ → ℕ → Option ℕ
target_at graph f i = slice_index_or (map (λ l. l.target) (edges_at graph f)) i None

-- whether an import's target is a file that is not opaque
abbrev pub is_analysed : List FileImports → Option ℕ → Bool
is_analysed graph None = false
is_analysed graph (Some h) = not (slice_index_or (map (λ file. file.is_opaque) graph) h true)

-- whether every import of a file names a file of the graph that is not opaque
abbrev pub is_complete_in : List FileImports → FileImports → Bool
is_complete_in graph file = list_all (λ l. is_analysed graph l.target) file.edges

-- the files that a file imports
abbrev pub targets : FileImports → List ℕ
targets file = filter_map (λ l. l.target) file.edges

-- the files that it imports publicly
abbrev pub public_targets : FileImports → List ℕ
public_targets file = filter_map (λ l. l.target) (filter (λ l. l.is_public) file.edges)
