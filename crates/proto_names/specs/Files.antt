-- The declarations and packages of all files. A file is its number in the list, counted from 0.
use Rattle.std.specs.Prelude.{ℕ, List, [], ◌∷◌, Bool, true, false, ◌&&◌, ◌==◌, drop, length, Option, Some, None, slice_index_or, map, filter, bytes_eq, nat_eq}
use Rattle.std.specs.List.{enumerate_from, flat_map, starts_with, list_any}
use Rattle.proto_decls.specs.declared.fact.FileFacts.{FileFacts}
use Rattle.proto_decls.specs.declared.fact.PackageFact.{PackageFact}
use Rattle.proto_decls.specs.declared.fact.Decl.{Decl}
use Rattle.proto_decls.specs.declared.fact.DeclKind.{DeclKind}
use Rattle.proto_decls.specs.declared.fact.DeclKind.TheVariants.{Field}
use Rattle.proto_decls.specs.declared.fact.ImportFact.{ImportFact}
use Rattle.proto_decls.specs.declared.problem.Problem.TheVariants.{NotProto3}
use Rattle.proto_decls.specs.Diags.{diag, nowhere}
use Rattle.proto_decls.specs.Facts.{opaque_facts}
use Rattle.proto_decls.specs.FullNames.{dot}
use Rattle.proto_decls.specs.declared.named_facts.NamedFacts.{NamedFacts}
use Rattle.proto_names.specs.declared.decl_ref.DeclRef.{DeclRef}

-- those of the empty text, which say nothing
abbrev pub no_facts : FileFacts
no_facts = opaque_facts (diag NotProto3 nowhere)

abbrev pub facts_at : List NamedFacts → ℕ → FileFacts
facts_at files f = slice_index_or (map (λ file. file.facts) files) f no_facts

abbrev pub decls_at : List NamedFacts → ℕ → List Decl
decls_at files f = let facts = facts_at files f in facts.decls

-- what it imports, and its package
abbrev pub imports_at : List NamedFacts → ℕ → List ImportFact
imports_at files f = let facts = facts_at files f in facts.imports

abbrev pub package_at : List NamedFacts → ℕ → Option PackageFact
package_at files f = let facts = facts_at files f in facts.«package»

abbrev pub no_decl : Decl
no_decl = record { kind = Field; full_name = []; name_span = nowhere; parent = None }

-- the declaration that a reference names
abbrev pub decl_at : List NamedFacts → DeclRef → Decl
decl_at files r = slice_index_or (decls_at files r.file) r.number no_decl

-- its full name
abbrev pub name_at : List NamedFacts → DeclRef → List ℕ
name_at files r = let d = decl_at files r in d.full_name

-- what it declares
abbrev pub kind_at : List NamedFacts → DeclRef → DeclKind
kind_at files r = let d = decl_at files r in d.kind

-- the declarations of a file, by offset
abbrev pub refs_of : ℕ → List Decl → List DeclRef
refs_of f decls = map (λ d. record { file = f; number = d.0 }) (enumerate_from 0 decls)

-- all declarations, by path, then offset
abbrev pub all_decls : List NamedFacts → List DeclRef
all_decls files = flat_map (λ e. refs_of e.0 (let facts = e.1.facts in facts.decls)) (enumerate_from 0 files)

-- those of a full name
abbrev pub all_named : List NamedFacts → List ℕ → List DeclRef
all_named files name = filter (λ r. bytes_eq (name_at files r) name) (all_decls files)

-- whether a component of a name ends here
abbrev pub ends_component : List ℕ → Bool
ends_component [] = true
ends_component (c ∷ rest) = c == dot

-- whether the first components of a full name are these
abbrev pub begins : List ℕ → List ℕ → Bool
begins full_name name = starts_with nat_eq full_name name && ends_component (drop (length name) full_name)

-- whether a package is this one, or lies in it
abbrev pub is_within : List ℕ → Option PackageFact → Bool
is_within name None = false
is_within name (Some p) = begins p.full_name name

-- whether a file has the package: a package's shorter prefixes are packages too
abbrev pub has_package : List NamedFacts → List ℕ → ℕ → Bool
has_package files name g = is_within name (package_at files g)

-- whether the view has the file
abbrev pub is_seen : List ℕ → ℕ → Bool
is_seen view g = list_any (λ h. h == g) view
