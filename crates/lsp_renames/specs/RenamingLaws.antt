-- Laws of the definitions of renaming.
use Rattle.std.specs.Prelude.{◌≡◌, ◌≢◌, ◌↔◌, ◌⊎◌, ℕ, ◌<◌, List, true, Some, Ok, Err, length, Contains}
use Rattle.proto_lex.specs.declared.token.Kind.TheVariants.{Ident}
use Rattle.proto_lex.specs.Forms.{IsForm}
use Rattle.proto_decls.specs.declared.fact.FileFacts.{FileFacts}
use Rattle.proto_decls.specs.declared.fact.SyntaxFact.TheVariants.{Other}
use Rattle.proto_decls.specs.Nesting.{IsWithin}
use Rattle.proto_decls.specs.Text.{joined}
use Rattle.import_graph.specs.Imports.{graph_of}
use Rattle.import_graph.specs.Views.{Sees}
use Rattle.proto_names.specs.declared.decl_ref.DeclRef.{DeclRef}
use Rattle.proto_decls.specs.FullNames.{dot, scope_of}
use Rattle.work_index.specs.Workspace.{AnalysisData, IsKnown, all_facts, decl_in, workspace_in}
use Rattle.lsp_queries.specs.Files.{facts_in, package_in}
use Rattle.lsp_renames.specs.Renaming.{ChangesMeaningAt, KeepsMeaning, is_identifier, is_taken, renamed}
use Rattle.lsp_renames.specs.UnknownUses.{has_unknown_uses}
use Rattle.lsp_renames.specs.declared.fault.RenameFault.TheVariants.{MeaningChanges}
use Rattle.lsp_queries.specs.declared.place.Place.{Place}

-- an identifier is what has the form of a name from its first byte to its last
abbrev pub IdentifierFormLaw : Type 0
IdentifierFormLaw = (name : List ℕ) → (is_identifier name ≡ true) ↔ IsForm Ident name

-- the scope of a full name is the one that its last component was joined to
abbrev pub FullNameScopeLaw : Type 0
FullNameScopeLaw = (scope name : List ℕ) → ¬ Contains name dot → scope_of (joined scope name) ≡ scope

-- another declaration than r has the full name
pub record HasAnother (a : AnalysisData) (r : DeclRef) (full_name : List ℕ) : Type 0 where
  pub another : DeclRef
  pub listed : Contains a.decls another
  pub other : another ≢ r
  pub named : (let found = decl_in a.facts another in found.full_name) ≡ full_name

-- the package of a file is the full name, or lies in it
pub record IsPackage (a : AnalysisData) (full_name : List ℕ) : Type 0 where
  pub file : ℕ
  pub there : file < length a.paths
  pub within : IsWithin full_name (package_in a file)

-- a full name is taken exactly if another declaration has it or it is a package
abbrev pub TakenLaw : Type 0
TakenLaw = (a : AnalysisData) (r : DeclRef) (full_name : List ℕ) → (is_taken a r full_name ≡ true) ↔ (HasAnother a r full_name ⊎ IsPackage a full_name)

-- a file with a text that isn't proto3, and is read for what it declares, sees the file, or is it
pub record IsSeenByOther (a : AnalysisData) (file : ℕ) : Type 0 where
  pub seer : ℕ
  pub facts : FileFacts
  pub there : facts_in a seer ≡ Some facts
  pub language : facts.syntax ≡ Other
  pub sees : Sees (graph_of (all_facts (workspace_in a))) seer file

-- what a file declares may have uses that aren't known exactly if such a file sees it
abbrev pub UnknownUsesLaw : Type 0
UnknownUsesLaw = (a : AnalysisData) (file : ℕ) → IsKnown a → file < length a.paths → (has_unknown_uses a file ≡ true) ↔ IsSeenByOther a file

-- a rename keeps all meanings
abbrev pub RenamesKeepMeaning : Type 0
RenamesKeepMeaning = (a : AnalysisData) (file offset : ℕ) (new_name : List ℕ) (places : List Place) → renamed a file offset new_name ≡ Ok places → KeepsMeaning a places new_name

-- and is refused because a meaning changes exactly if one does and nothing else speaks against the new name
abbrev pub RefusedForMeaning : Type 0
RefusedForMeaning = (a : AnalysisData) (file offset : ℕ) (new_name : List ℕ) → (renamed a file offset new_name ≡ Err MeaningChanges) ↔ ChangesMeaningAt a file offset new_name
