-- The full names for which a file asks: a declaration with any other full name makes no difference to the file.
use Rattle.std.specs.Prelude.{ℕ, ◌==◌, ◌||◌, List, [], ◌∷◌, ◌++◌, Bool, map, if◌then◌else◌}
use Rattle.std.specs.List.{flat_map, list_all, list_any}
use Rattle.proto_decls.specs.declared.fact.Decl.{Decl}
use Rattle.proto_decls.specs.Text.{joined}
use Rattle.proto_resolve.specs.declared.site.NameSite.{NameSite}
use Rattle.proto_resolve.specs.Names.{first_text, joined_all, texts_of}
use Rattle.proto_resolve.specs.Uses.{prefixes}
use Rattle.work_links.specs.declared.asked.Asked.{Asked}
use Rattle.work_links.specs.declared.keys.NameKeys.{NameKeys}
use Rattle.work_links.specs.Keys.{key, last_key}

-- the scopes in which a name may be looked for: with a leading dot, only the empty scope
abbrev pub scopes_asked : NameSite → List (List ℕ)
scopes_asked site = if site.is_absolute then [] ∷ [] else site.scopes

-- The full names for which a name asks in a scope: that of its first component, that of the whole name, and those up to each
-- component. The first two are others only for a name without components.
abbrev pub names_asked_in : NameSite → List ℕ → List (List ℕ)
names_asked_in site scope = joined scope (first_text site) ∷ joined_all scope (texts_of site) ∷ map (λ c. c.0) (prefixes scope site.components)

abbrev pub asked_by : NameSite → List (List ℕ)
asked_by site = flat_map (names_asked_in site) (scopes_asked site)

-- the full names for which a file asks: by its names, and whether another file declares what it declares
abbrev pub names_asked : List NameSite → List Decl → List (List ℕ)
names_asked sites decls = flat_map asked_by sites ++ map (λ d. d.full_name) decls

-- whether a full name may be one of those for which a file asks, as far as hashes tell
abbrev pub may_ask : Asked → List ℕ → Bool
may_ask asked name = asked.all || (list_any (λ k. k == last_key name) asked.uses.items || list_any (λ k. k == key name) asked.declares.items)

-- whether what is kept has all of the names
abbrev pub has_all : Asked → List (List ℕ) → Bool
has_all asked names = list_all (may_ask asked) names

-- whether a file may ask for one of the names, as far as hashes tell
abbrev pub asks_any : Asked → List NameKeys → Bool
asks_any asked names = asked.all || list_any (λ name. list_any (λ k. k == name.last) asked.uses.items || list_any (λ k. k == name.whole) asked.declares.items) names
