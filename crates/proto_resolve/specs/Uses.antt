-- The uses of names: one for each component of a name that has a meaning.
use Rattle.std.specs.Prelude.{ℕ, List, [], ◌∷◌, Option, is_some, option_map, if◌then◌else◌}
use Rattle.std.specs.List.{enumerate_from, flat_map, filter_map}
use Rattle.proto_decls.specs.declared.named_facts.NamedFacts.{NamedFacts}
use Rattle.proto_tree.specs.declared.node.Span.{Span}
use Rattle.proto_decls.specs.Text.{joined}
use Rattle.proto_resolve.specs.declared.site.NameSite.{NameSite}
use Rattle.proto_resolve.specs.declared.site.Component.{Component}
use Rattle.std.specs.Option.{option_map_or}
use Rattle.proto_resolve.specs.declared.uses.NameUse.{NameUse}
use Rattle.proto_resolve.specs.Names.{joined_all, texts_of, found, scope_of}

-- each component with the full name up to it
abbrev pub prefixes : List ℕ → List Component → List (List ℕ × Span)
prefixes before [] = []
prefixes before (c ∷ rest) = (joined before c.text, c.span) ∷ prefixes (joined before c.text) rest

-- what f finds at the full name up to a component, with the component's place
abbrev pub use_at : List NamedFacts → ℕ → List ℕ → ℕ → List ℕ × Span → Option NameUse
use_at files f view i c = option_map (λ t. record { span = c.1; name = i; target = t }) (found files f view c.0)

-- the uses of components in a scope
abbrev pub uses_in : List NamedFacts → ℕ → List ℕ → ℕ → List ℕ → List Component → List NameUse
uses_in files f view i scope components = filter_map (use_at files f view i) (prefixes scope components)

-- the uses of a name that is looked for in a scope, which are none without a meaning
abbrev pub uses_at : List NamedFacts → ℕ → List ℕ → ℕ → NameSite → List ℕ → List NameUse
uses_at files f view i site scope =
    if is_some (found files f view (joined_all scope (texts_of site))) then uses_in files f view i scope site.components else []

-- the uses of a name in its scope
abbrev pub uses_of : List NamedFacts → ℕ → List ℕ → ℕ → NameSite → List NameUse
uses_of files f view i site = option_map_or (uses_at files f view i site) (scope_of files f view site) []

-- the uses of a file's names, in order
abbrev pub uses : List NamedFacts → ℕ → List ℕ → List NameSite → List NameUse
uses files f view sites = flat_map (λ e. uses_of files f view e.0 e.1) (enumerate_from 0 sites)
