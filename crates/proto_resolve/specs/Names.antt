-- What a name means, where the file `f` sees the files of `view`, ascending.
use Rattle.std.specs.Prelude.{◌≡◌, ℕ, ◌<◌, ◌==◌, List, [], ◌∷◌, Bool, true, false, Option, Some, None, slice_index_or, map, find, length, ⊤, option_and_then, option_map, if◌then◌else◌}
use Rattle.std.specs.List.{list_any}
use Rattle.std.specs.Option.{option_or}
use Rattle.proto_decls.specs.declared.fact.DeclKind.{DeclKind}
use Rattle.proto_decls.specs.declared.fact.DeclKind.TheVariants.{Message, EnumDef}
use Rattle.proto_decls.specs.declared.named_facts.NamedFacts.{NamedFacts}
use Rattle.proto_resolve.specs.declared.site.NameSite.{NameSite}
use Rattle.proto_resolve.specs.declared.site.Needs.{Needs}
use Rattle.proto_resolve.specs.declared.site.Needs.TheVariants as needs
use Rattle.proto_names.specs.declared.decl_ref.DeclRef.{DeclRef}
use Rattle.proto_resolve.specs.declared.target.Target.{Target}
use Rattle.proto_resolve.specs.declared.target.Target.TheVariants.{Declared, Package}
use Rattle.proto_decls.specs.Text.{joined}
use Rattle.proto_names.specs.Files.{all_named, has_package, is_seen, kind_at}
use Rattle.proto_names.specs.Holders.{is_holder}

-- a package that a file of the view has
abbrev pub package_found : List NamedFacts → List ℕ → List ℕ → Option Target
package_found files view name = if list_any (has_package files name) view then Some (Package name) else None

-- of declarations in order, the first one of the file f, else the first one of a file of the view
abbrev pub first_declared : ℕ → List ℕ → List DeclRef → Option DeclRef
first_declared f view decls = option_or (find (λ r. r.file == f) decls) (find (λ r. is_seen view r.file) decls)

-- What f finds at a full name: the first declaration of its own, else the first of another file that it sees, else the package.
abbrev pub found : List NamedFacts → ℕ → List ℕ → List ℕ → Option Target
found files f view name = option_or (option_map Declared (first_declared f view (all_named files name))) (package_found files view name)

-- the components with dots between them, in a scope
abbrev pub joined_all : List ℕ → List (List ℕ) → List ℕ
joined_all scope [] = scope
joined_all scope (c ∷ rest) = joined_all (joined scope c) rest

-- what a type has to be
abbrev pub is_type : Needs → DeclKind → Bool
is_type _ Message = true
is_type needs.MessageOrEnum EnumDef = true
is_type _ _ = false

-- whether the target is a declaration of such a kind
abbrev pub has_kind : List NamedFacts → (DeclKind → Bool) → Option Target → Bool
has_kind files test (Some (Declared r)) = test (kind_at files r)
has_kind files test _ = false

-- whether the target may hold the rest of a name
abbrev pub can_hold : List NamedFacts → Option Target → Bool
can_hold files (Some (Package name)) = true
can_hold files target = has_kind files is_holder target

-- whether a first component that is found like this settles the scope: alone it is a type, before others it holds them
abbrev pub settles : List NamedFacts → Bool → Option Target → Bool
settles files true target = has_kind files (is_type needs.MessageOrEnum) target
settles files false target = can_hold files target

abbrev pub texts_of : NameSite → List (List ℕ)
texts_of site = map (λ c. c.text) site.components

-- a target that is there: a declaration of one of the files, or a package
abbrev pub IsThere : List NamedFacts → Target → Type 0
IsThere files (Declared r) = r.file < length files
IsThere files (Package name) = ⊤

abbrev pub first_text : NameSite → List ℕ
first_text site = slice_index_or (texts_of site) 0 []

-- whether the first component settles the scope s
abbrev pub settles_at : List NamedFacts → ℕ → List ℕ → NameSite → List ℕ → Bool
settles_at files f view site s = settles files (length (texts_of site) == 1) (found files f view (joined s (first_text site)))

-- the innermost scope that settles the name; a leading dot is the empty scope
abbrev pub scope_of : List NamedFacts → ℕ → List ℕ → NameSite → Option (List ℕ)
scope_of files f view site =
    if site.is_absolute then Some []
    else find (settles_at files f view site) site.scopes

-- what a name means, if anything
abbrev pub meaning : List NamedFacts → ℕ → List ℕ → NameSite → Option Target
meaning files f view site = option_and_then (λ s. found files f view (joined_all s (texts_of site))) (scope_of files f view site)

-- the same said without a search: the test holds at the scope, and at no inner one
pub record IsInnermost (Settles : List ℕ → Type 0) (scopes : List (List ℕ)) (s : List ℕ) : Type 0 where
  pub place : ℕ
  pub within : place < length scopes
  pub here : slice_index_or scopes place [] ≡ s
  pub holds : Settles s
  pub no_inner : (k : ℕ) → k < place → ¬ Settles (slice_index_or scopes k [])
