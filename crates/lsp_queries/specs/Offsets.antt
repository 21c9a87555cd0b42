-- What stands at an offset of a file.
use Rattle.std.specs.Prelude.{ℕ, Bool, ◌&&◌, nat_le, Option, Some, None, option_map, position, find, if◌then◌else◌}
use Rattle.std.specs.List.{list_any}
use Rattle.std.specs.Option.{option_or}
use Rattle.proto_tree.specs.declared.node.Span.{Span}
use Rattle.proto_names.specs.declared.decl_ref.DeclRef.{DeclRef}
use Rattle.proto_resolve.specs.declared.target.Target.{Target}
use Rattle.proto_resolve.specs.declared.target.Target.TheVariants as target
use Rattle.work_index.specs.Workspace.{AnalysisData}
use Rattle.lsp_queries.specs.Files.{decls_in, components_in, uses_in}
use Rattle.lsp_queries.specs.declared.offsets.Symbol.{Symbol}
use Rattle.lsp_queries.specs.declared.offsets.Symbol.TheVariants.{Declared, Package}

-- whether a span begins at or before the offset, and ends at or behind it
abbrev pub holds : ℕ → Span → Bool
holds offset s = nat_le s.start offset && nat_le offset s.end

-- what a name that is used stands for
abbrev pub symbol_of : Target → Symbol
symbol_of (target.Declared r) = Declared r
symbol_of (target.Package name) = Package

module _ (a : AnalysisData) (file offset : ℕ) where
  -- a declared name stands for that very declaration, whatever else has the same full name
  abbrev pub declared_at : Option Symbol
  declared_at = option_map (λ number. Declared (record { file = file; number = number })) (position (λ d. holds offset d.name_span) (decls_in a file))

  -- a component of a name stands for what is found at the full name up to it
  abbrev pub used_at : Option Symbol
  used_at = option_map (λ u. symbol_of u.target) (find (λ u. holds offset u.span) (uses_in a file))

  -- a component of the package that counts
  abbrev pub package_at : Option Symbol
  package_at = if list_any (holds offset) (components_in a file) then Some Package else None

  -- what the name at the offset stands for, if there is one
  abbrev pub symbol_at : Option Symbol
  symbol_at = option_or declared_at (option_or used_at package_at)

abbrev pub declaration : Option Symbol → Option DeclRef
declaration (Some (Declared r)) = Some r
declaration _ = None

-- the declaration that it stands for, if it stands for one
abbrev pub declaration_at : AnalysisData → ℕ → ℕ → Option DeclRef
declaration_at a file offset = declaration (symbol_at a file offset)
