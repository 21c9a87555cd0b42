-- What is known of a workspace.
use Rattle.std.specs.Prelude.{◌≡◌, ℕ, Bool, List, ◌++◌, All, false, map, filter, slice_index_or, bytes_eq, [], position}
use Rattle.std.specs.Option.{option_map_or}
use Rattle.std.specs.List.{enumerate_from, zip}
use Rattle.proto_tree.specs.Read.{value_tree}
use Rattle.proto_decls.specs.declared.diagnostic.Diag.{Diag}
use Rattle.proto_decls.specs.declared.fact.Decl.{Decl}
use Rattle.proto_decls.specs.declared.fact.FileFacts.{FileFacts}
use Rattle.proto_decls.specs.Facts.{facts_by, facts_of}
use Rattle.proto_decls.specs.Order.{in_order}
use Rattle.proto_decls.specs.declared.named_facts.NamedFacts.{NamedFacts}
use Rattle.proto_names.specs.declared.decl_ref.DeclRef.{DeclRef}
use Rattle.proto_resolve.specs.declared.resolve.Links.{Links}
use Rattle.proto_names.specs.Files.{all_decls, no_facts, no_decl}
use Rattle.proto_resolve.specs.Resolved.{resolved}
use Rattle.proto_resolve.specs.Sites.{names_of_file}
use Rattle.work_links.specs.Asked.{names_asked}

-- the text of a file, and whether it is read for what it declares if it isn't proto3
pub record Source : Type 0 where
  pub text : List ℕ
  pub reads_others : Bool

-- what the text of a file says by itself
abbrev pub source_facts : Source → FileFacts
source_facts s = facts_by s.reads_others s.text

-- the path of a file, by its bytes, and its text
abbrev pub SourceAt : Type 0
SourceAt = List ℕ × Source

abbrev pub Workspace : Type 0
Workspace = List SourceAt

-- what is read where there is no file
abbrev pub no_file : SourceAt
no_file = ([], record { text = []; reads_others = false })

-- texts by path, which are all read alike
abbrev pub sources_of : Bool → List (List ℕ × List ℕ) → Workspace
sources_of reads_others files = map (λ file. (file.0, record { text = file.1; reads_others = reads_others })) files

-- the texts alone
abbrev pub texts_of : List Source → List (List ℕ)
texts_of sources = map (λ s. s.text) sources

-- a file, and what its text says by itself
abbrev pub named_facts : SourceAt → NamedFacts
named_facts file = record { path = file.0; facts = source_facts file.1 }

abbrev pub all_facts : Workspace → List NamedFacts
all_facts w = map named_facts w

-- the uses of names in a file, given its number, and what is wrong by what it sees
abbrev pub resolution_of : Workspace → ℕ × SourceAt → Links
resolution_of w file = let source = file.1.1 in resolved (all_facts w) file.0 source.text (value_tree source.text)

-- the full names for which a file with a text asks
abbrev pub asked_of : Source → List (List ℕ)
asked_of s = let facts = source_facts s in let tree = value_tree s.text in names_asked (names_of_file s.text facts tree.nodes) facts.decls

-- what is wrong by itself and by what is seen: each once, in order
abbrev pub merged : FileFacts → Links → List Diag
merged facts links = in_order (facts.diags ++ links.diags)

-- all that is wrong in a file; what is wrong in a text by itself is what it says as proto3, however it is read
abbrev pub diagnostics_of : Workspace → ℕ × SourceAt → List Diag
diagnostics_of w file = let source = file.1.1 in merged (facts_of source.text) (resolution_of w file)

-- The analysis of a workspace: its paths and its texts; the facts of each file; all declarations, by path, then offset; the uses of
-- names in each file, with what is wrong by what it sees; and all that is wrong in each file.
pub record AnalysisData : Type 0 where
  pub paths : List (List ℕ)
  pub sources : List Source
  pub facts : List FileFacts
  pub decls : List DeclRef
  pub links : List Links
  pub diagnostics : List (List Diag)

abbrev pub analysis : Workspace → AnalysisData
analysis w = record {
  paths = map (λ file. file.0) w;
  sources = map (λ file. file.1) w;
  facts = map (λ file. source_facts file.1) w;
  decls = all_decls (all_facts w);
  links = map (resolution_of w) (enumerate_from 0 w);
  diagnostics = map (diagnostics_of w) (enumerate_from 0 w);
}

-- the workspace of an analysis
abbrev pub workspace_in : AnalysisData → Workspace
workspace_in a = zip a.paths a.sources

-- it is the analysis of its own workspace
pub record IsKnown (a : AnalysisData) : Type 0 where
  pub is : a ≡ analysis (workspace_in a)

-- ---- reading it

abbrev pub decl_in : List FileFacts → DeclRef → Decl
decl_in facts r = slice_index_or (let file = slice_index_or facts r.file no_facts in file.decls) r.number no_decl

-- the declarations of a full name, by path, then offset
abbrev pub decls_named : AnalysisData → List ℕ → List DeclRef
decls_named a name = filter (λ r. bytes_eq (let found = decl_in a.facts r in found.full_name) name) a.decls

-- what is wrong in the file with a path; nothing where there is none
abbrev pub diags_at : AnalysisData → List ℕ → List Diag
diags_at a path = option_map_or (λ file. slice_index_or a.diagnostics file []) (position (λ p. bytes_eq p path) a.paths) []

-- no import of the files has the path
abbrev pub NoneImports : List FileFacts → List ℕ → Type 0
NoneImports facts path = All (λ f. All (λ i. bytes_eq i.path path ≡ false) f.imports) facts
