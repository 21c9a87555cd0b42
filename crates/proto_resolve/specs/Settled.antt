-- What is known of the scope of a name.
use Rattle.std.specs.Prelude.{◌≡◌, ◌<◌, ℕ, List, Option, Some, length, IfSome}
use Rattle.proto_decls.specs.Text.{joined}
use Rattle.proto_decls.specs.declared.named_facts.NamedFacts.{NamedFacts}
use Rattle.proto_resolve.specs.declared.site.NameSite.{NameSite}
use Rattle.proto_names.specs.declared.decl_ref.DeclRef.{DeclRef}
use Rattle.proto_resolve.specs.declared.view.View.{View}
use Rattle.proto_names.specs.Files.{all_named}
use Rattle.proto_resolve.specs.Names.{first_declared, first_text}

-- where a declaration is kept with a scope, it is there, and it is the one that the name's first component means in that scope
abbrev pub IsFirstIn : List NamedFacts → View → NameSite → List ℕ → Option DeclRef → Type 0
IsFirstIn files v site scope first = IfSome first (λ d. (d.file < length files) × (first_declared v.file v.files (all_named files (joined scope (first_text site))) ≡ Some d))
