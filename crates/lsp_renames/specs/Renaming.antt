-- Another name for a declaration.
use Rattle.std.specs.Prelude.{◌≡◌, ◌⊎◌, ℕ, ◌==◌, ◌&&◌, ◌||◌, not, List, [], ◌∷◌, Bool, true, false, Option, Some, None, IsSome, IsTrue, Result, Ok, Err, if◌then◌else◌}
use Rattle.std.specs.List.{enumerate_from, list_all, list_any}
use Rattle.std.specs.Option.{option_map_or}
use Rattle.proto_lex.specs.Bytes.{is_letter, is_name_byte}
use Rattle.proto_decls.specs.Text.{joined}
use Rattle.proto_names.specs.declared.decl_ref.DeclRef.{DeclRef}
use Rattle.proto_names.specs.Files.{is_within}
use Rattle.proto_decls.specs.FullNames.{scope_of}
use Rattle.work_index.specs.Workspace.{AnalysisData, analysis, decls_named, workspace_in}
use Rattle.lsp_queries.specs.Answers.{sites_of}
use Rattle.work_meaning.specs.Bindings.{SameMeaning, same_meaning}
use Rattle.lsp_renames.specs.Edited.{edited}
use Rattle.lsp_renames.specs.UnknownUses.{has_others, has_unknown_uses}
use Rattle.lsp_queries.specs.Files.{decl_of, package_in, place_of}
use Rattle.lsp_queries.specs.Offsets.{declaration_at, symbol_at}
use Rattle.lsp_renames.specs.declared.fault.RenameFault.{RenameFault}
use Rattle.lsp_renames.specs.declared.fault.RenameFault.TheVariants.{NoSymbol, NotRenamable, BadName, NameTaken, MeaningChanges}
use Rattle.lsp_queries.specs.declared.offsets.Symbol.{Symbol}
use Rattle.lsp_queries.specs.declared.offsets.Symbol.TheVariants.{Declared, Package}
use Rattle.lsp_queries.specs.declared.place.Place.{Place}

-- ---- names

-- an ASCII letter or an underscore, and then such bytes and digits alone
abbrev pub is_identifier : List ℕ → Bool
is_identifier [] = false
is_identifier (b ∷ rest) = is_letter b && list_all is_name_byte rest

-- s is another declaration than r
abbrev pub is_other : DeclRef → DeclRef → Bool
is_other r s = not ((s.file == r.file) && (s.number == r.number))

-- ---- renaming

module _ (a : AnalysisData) where
  -- the full name that a declaration gets: its scope with the new name
  abbrev pub new_full_name : DeclRef → List ℕ → List ℕ
  new_full_name r new_name = joined (option_map_or (λ d. scope_of d.full_name) (decl_of a r) []) new_name

  -- another declaration has the full name
  abbrev pub is_declared : DeclRef → List ℕ → Bool
  is_declared r full_name = list_any (is_other r) (decls_named a full_name)

  abbrev pub is_package : List ℕ → Bool
  is_package full_name = list_any (λ e. is_within full_name (package_in a e.0)) (enumerate_from 0 a.paths)

  abbrev pub is_taken : DeclRef → List ℕ → Bool
  is_taken r full_name = is_declared r full_name || is_package full_name

  -- what is known of the workspace once the new name stands at each of the places
  unfoldable pub analysis_after : List Place → List ℕ → AnalysisData
  analysis_after places new_name = analysis (edited new_name places (workspace_in a))

  -- each name stands for what it stood for, and what is wrong in each file has the same numbers
  abbrev pub KeepsMeaning : List Place → List ℕ → Type 0
  KeepsMeaning places new_name = SameMeaning a (analysis_after places new_name)

  -- the places, if that is so
  unfoldable pub checked : List Place → List ℕ → Result (List Place) RenameFault
  checked places new_name = if same_meaning a (analysis_after places new_name) then Ok places else Err MeaningChanges

  -- the places of a declaration's name and of all its uses, unless the new name is refused
  abbrev pub renamed_decl : DeclRef → List ℕ → Result (List Place) RenameFault
  renamed_decl r new_name =
      if not (is_identifier new_name) then Err BadName
      else (if is_taken r (new_full_name r new_name) then Err NameTaken
      else checked (sites_of a r (place_of a r)) new_name)

  -- the same, unless a text that isn't proto3 may have uses of the declaration
  abbrev pub renamed_known : DeclRef → List ℕ → Result (List Place) RenameFault
  renamed_known r new_name = if has_unknown_uses a r.file then Err NotRenamable else renamed_decl r new_name

  abbrev pub renamed_symbol : Option Symbol → List ℕ → Result (List Place) RenameFault
  renamed_symbol None new_name = Err NoSymbol
  renamed_symbol (Some Package) new_name = Err NotRenamable
  renamed_symbol (Some (Declared r)) new_name = renamed_known r new_name

  -- what another name for the symbol at an offset changes: the first refusal that fits, else the places
  abbrev pub renamed : ℕ → ℕ → List ℕ → Result (List Place) RenameFault
  renamed file offset new_name = renamed_symbol (symbol_at a file offset) new_name

  -- memory is taken only for a declaration, where the new name is an identifier or a text isn't proto3 and is read for what it declares
  abbrev pub TakesMemory : ℕ → ℕ → List ℕ → Type 0
  TakesMemory file offset new_name = IsSome (declaration_at a file offset) × (IsTrue (is_identifier new_name) ⊎ IsTrue (has_others a))

-- a meaning changes, and that is all that speaks against the new name of a declaration
pub record ChangesMeaning (a : AnalysisData) (r : DeclRef) (new_name : List ℕ) : Type 0 where
  pub named : is_identifier new_name ≡ true
  pub free : is_taken a r (new_full_name a r new_name) ≡ false
  pub changes : KeepsMeaning a (sites_of a r (place_of a r)) new_name → ⊥

-- the same for the symbol at an offset
pub record ChangesMeaningAt (a : AnalysisData) (file offset : ℕ) (new_name : List ℕ) : Type 0 where
  pub decl : DeclRef
  pub there : symbol_at a file offset ≡ Some (Declared decl)
  pub known : has_unknown_uses a decl.file ≡ false
  pub changes : ChangesMeaning a decl new_name
