-- Laws of the definitions.
use Rattle.std.specs.Prelude.{◌≡◌, ◌≢◌, ◌↔◌, ℕ, suc, List, [], All, IsTrue, Some, None, true, false, map, length, take}
use Rattle.std.specs.List.{range_with_len}
use Rattle.proto_decls.specs.declared.named_facts.NamedFacts.{NamedFacts}
use Rattle.proto_decls.specs.Nesting.{NamesNest}
use Rattle.proto_resolve.specs.declared.site.NameSite.{NameSite}
use Rattle.proto_resolve.specs.declared.target.Target.{Target}
use Rattle.proto_resolve.specs.declared.uses.NameUse.{NameUse}
use Rattle.proto_resolve.specs.Names.{found, joined_all, meaning, scope_of, settles_at, texts_of, IsInnermost}
use Rattle.proto_names.specs.Files.{is_seen}
use Rattle.proto_resolve.specs.Uses.{uses_of}

-- A name without a leading dot has the scope s exactly where s settles it and no inner scope does, and none exactly where no
-- scope does.
abbrev pub ScopeLaw : Type 0
ScopeLaw = (files : List NamedFacts) (f : ℕ) (view : List ℕ) (site : NameSite) → site.is_absolute ≡ false
    → ((s : List ℕ) → (scope_of files f view site ≡ Some s) ↔ IsInnermost (λ x. settles_at files f view site x ≡ true) site.scopes s)
    × ((scope_of files f view site ≡ None) ↔ All (λ x. settles_at files f view site x ≡ false) site.scopes)

-- the full name of a name's first components, up to the one of the number k, in the scope s
abbrev pub up_to : List ℕ → NameSite → ℕ → List ℕ
up_to s site k = joined_all s (take (suc k) (texts_of site))

-- one use for each component of the i-th name, in order, of what is found at the full name up to it
pub record AreUsesOf (files : List NamedFacts) (f : ℕ) (view : List ℕ) (i : ℕ) (s : List ℕ) (site : NameSite) (uses : List NameUse) : Type 0 where
  pub numbers : All (λ u. u.name ≡ i) uses
  pub spans : map (λ u. u.span) uses ≡ map (λ c. c.span) site.components
  pub targets : map (λ u. Some u.target) uses ≡ map (λ k. found files f view (up_to s site k)) (range_with_len 0 (length site.components))

-- A name without a meaning has no uses. A name with a meaning has one for each component, where the names of each file nest,
-- the file sees itself, and no component is empty.
abbrev pub UsesLaw : Type 0
UsesLaw = (files : List NamedFacts) (f : ℕ) (view : List ℕ) (i : ℕ) (site : NameSite)
    → (meaning files f view site ≡ None → uses_of files f view i site ≡ [])
    × ((s : List ℕ) (t : Target) → All (λ file. NamesNest file.facts) files → IsTrue (is_seen view f) → All (λ c. c ≢ []) (texts_of site)
    → scope_of files f view site ≡ Some s → meaning files f view site ≡ Some t → AreUsesOf files f view i s site (uses_of files f view i site))
