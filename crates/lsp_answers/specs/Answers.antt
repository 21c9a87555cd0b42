-- What is answered about names, by URIs and positions.
use Rattle.std.specs.Prelude.{ℕ, List, [], ◌∷◌, Bool, Option, Some, None, Result, Ok, Err, map, option_map, option_and_then, slice_index_or, position, bytes_eq}
use Rattle.std.specs.List.{filter_map}
use Rattle.std.specs.Option.{option_map_or}
use Rattle.serde_json.specs.Data.{Data}
use Rattle.doc_text.specs.declared.encoding.Encoding.{Encoding}
use Rattle.doc_text.specs.declared.position.Range.{Range}
use Rattle.proto_decls.specs.FullNames.{last_of, scope_of}
use Rattle.proto_decls.specs.declared.fact.Decl.{Decl}
use Rattle.proto_decls.specs.declared.fact.DeclKind.{DeclKind}
use Rattle.proto_decls.specs.declared.fact.DeclKind.TheVariants as decl
use Rattle.lsp_queries.specs.Answers as answers
use Rattle.lsp_renames.specs.ByFile.{by_file}
use Rattle.lsp_queries.specs.Files.{place, decl_of}
use Rattle.lsp_renames.specs.Renaming.{renamed}
use Rattle.lsp_renames.specs.declared.fault.RenameFault.{RenameFault}
use Rattle.lsp_renames.specs.declared.fault.RenameFault.TheVariants as fault
use Rattle.lsp_queries.specs.declared.place.Place.{Place}
use Rattle.lsp_rpc.specs.Location.{LocationData}
use Rattle.lsp_rpc.specs.Message.{IdData}
use Rattle.lsp_rpc.specs.Reply.{result_reply, error_reply}
use Rattle.lsp_rpc.specs.Symbol.{SymbolData}
use Rattle.lsp_rpc.specs.WorkspaceEdit.{workspace_edit_value}
use Rattle.lsp_rpc.specs.declared.error_code.ErrorCode.TheVariants.{RenameRefused}
use Rattle.lsp_rpc.specs.declared.error_code.RenameRefusal.{RenameRefusal}
use Rattle.lsp_rpc.specs.declared.error_code.RenameRefusal.TheVariants as refusal
use Rattle.lsp_rpc.specs.declared.symbol.SymbolKind.{SymbolKind}
use Rattle.lsp_rpc.specs.declared.symbol.SymbolKind.TheVariants as kind
use Rattle.work_files.specs.Files.{file_at}
use Rattle.proto_names.specs.declared.decl_ref.DeclRef.{DeclRef}
use Rattle.work_index.specs.Workspace.{SourceAt, Workspace, AnalysisData, analysis, no_file}
use Rattle.lsp_answers.specs.Context.{Context}
use Rattle.lsp_answers.specs.Ranges.{range_of}
use Rattle.lsp_answers.specs.Reports.{uri_of}

-- a place in a document: its path, and an offset in bytes of its text
pub record DocumentPlaceData : Type 0 where
  pub path : List ℕ
  pub offset : ℕ

-- ---- kinds

-- what a declaration is in the protocol's words
abbrev pub kind_of : DeclKind → SymbolKind
kind_of decl.Message = kind.Struct
kind_of decl.EnumDef = kind.Enum
kind_of decl.Service = kind.Interface
kind_of decl.Rpc = kind.Method
kind_of decl.Oneof = kind.Property
kind_of decl.Field = kind.Field
kind_of decl.Extension = kind.Field
kind_of decl.Value = kind.EnumMember

-- declarations with the places of their names
abbrev pub declarations : AnalysisData → List DeclRef → List (Place × Decl)
declarations a rs = filter_map (λ r. option_map (λ d. (place r.file d.name_span, d)) (decl_of a r)) rs

-- ---- places

-- a file of the workspace, with its text
abbrev pub file_of : Workspace → ℕ → SourceAt
file_of w file = slice_index_or w file no_file

-- the number of the file with a path
abbrev pub number_of : Workspace → List ℕ → Option ℕ
number_of w path = position (λ p. bytes_eq p path) (map (λ f. f.0) w)

-- a place in a text
abbrev pub place_range : Encoding → List ℕ → Place → Range
place_range encoding text p = range_of encoding text p.start p.end

-- a declaration at a place: the last component of its full name, and what stands before that
abbrev pub symbol_at : Decl → LocationData → SymbolData
symbol_at d location = record {
  name = last_of d.full_name;
  container = scope_of d.full_name;
  kind = kind_of d.kind;
  location = location;
}

module _ (c : Context) where
  abbrev pub uri_at : ℕ → List ℕ
  uri_at file = uri_of c.roots (file_of c.workspace file).0 (file_at (file_of c.workspace file).0 c.files)

  -- places in a file, as ranges of its document
  abbrev pub ranges_in : ℕ → List Place → List Range
  ranges_in file places = map (place_range c.encoding (file_of c.workspace file).1.text) places

  abbrev pub document_of : ℕ × List Place → List ℕ × List Range
  document_of g = (uri_at g.0, ranges_in g.0 g.1)

  abbrev pub documents_of : List Place → List (List ℕ × List Range)
  documents_of places = map document_of (by_file places)

  -- a place, in its document
  abbrev pub location_of : Place → LocationData
  location_of p = record { range = place_range c.encoding (file_of c.workspace p.file).1.text p; uri = uri_at p.file }

  -- the declaration that the name at a place stands for: `None` if there is none
  abbrev pub definition_at : DocumentPlaceData → Option (List LocationData)
  definition_at at = option_map (λ p. location_of p ∷ []) (option_and_then (λ file. answers.definition (analysis c.workspace) file at.offset) (number_of c.workspace at.path))

  -- where it is used
  abbrev pub references_at : DocumentPlaceData → Bool → Option (List LocationData)
  references_at at include = option_map (map location_of) (option_and_then (λ file. answers.references (analysis c.workspace) file at.offset include) (number_of c.workspace at.path))

  -- a declaration at its place
  abbrev pub symbol_of : Place × Decl → SymbolData
  symbol_of d = symbol_at d.1 (location_of d.0)

  -- the declarations whose full name contains the query
  abbrev pub symbols_for : List ℕ → List SymbolData
  symbols_for query = map symbol_of (declarations (analysis c.workspace) (answers.symbols (analysis c.workspace) query))

  -- the ranges that get another name, document by document, or why the rename is refused
  abbrev pub edits_of : Result (List Place) RenameFault → Result (List (List ℕ × List Range)) RenameFault
  edits_of (Ok places) = Ok (documents_of places)
  edits_of (Err fault) = Err fault

  -- the same for what the name at a place stands for
  abbrev pub edits_at : DocumentPlaceData → List ℕ → Result (List (List ℕ × List Range)) RenameFault
  edits_at at new_name = edits_of (option_map_or (λ file. renamed (analysis c.workspace) file at.offset new_name) (number_of c.workspace at.path) (Err fault.NoSymbol))

-- ---- renames

-- being out of memory is no refusal
abbrev pub refusal_of : RenameFault → Option RenameRefusal
refusal_of fault.NoSymbol = Some refusal.NoSymbol
refusal_of fault.NotRenamable = Some refusal.NotRenamable
refusal_of fault.BadName = Some refusal.BadName
refusal_of fault.NameTaken = Some refusal.NameTaken
refusal_of fault.MeaningChanges = Some refusal.MeaningChanges
refusal_of fault.Memory = None

abbrev pub refused_rename : IdData → RenameFault → Option Data
refused_rename id fault = option_map (λ refusal. error_reply (Some id) (RenameRefused refusal)) (refusal_of fault)

-- the reply that gives the edits, or says why there are none
abbrev pub rename_reply : IdData → List ℕ → Result (List (List ℕ × List Range)) RenameFault → Option Data
rename_reply id new_name (Ok documents) = Some (result_reply id (workspace_edit_value new_name documents))
rename_reply id new_name (Err fault) = refused_rename id fault
