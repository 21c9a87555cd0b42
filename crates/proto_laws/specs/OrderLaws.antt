-- The laws of the order in which the names of a text stand, and their uses.
use Rattle.std.specs.Prelude.{ℕ, List, map}
use Rattle.std.specs.List.{flat_map}
use Rattle.std.specs.List.Sorted.{IsStrictlyIncreasing}
use Rattle.proto_tree.specs.Read.{value_tree}
use Rattle.proto_decls.specs.declared.fact.FileFacts.{FileFacts}
use Rattle.proto_decls.specs.declared.named_facts.NamedFacts.{NamedFacts}
use Rattle.proto_resolve.specs.declared.site.NameSite.{NameSite}
use Rattle.proto_resolve.specs.Sites.{names_of_file}
use Rattle.proto_resolve.specs.Uses.{uses}

-- the names of a text's tree, which with the text's own facts are those of its file
abbrev pub names_of_text : List ℕ → FileFacts → List NameSite
names_of_text text facts = let tree = value_tree text in names_of_file text facts tree.nodes

abbrev pub NamesAscend : Type 0
NamesAscend = (text : List ℕ) (facts : FileFacts) → IsStrictlyIncreasing (map (λ n. n.span.start) (names_of_text text facts))

-- the components of all the names, in one list
abbrev pub ComponentsAscend : Type 0
ComponentsAscend = (text : List ℕ) (facts : FileFacts) → IsStrictlyIncreasing (map (λ c. c.span.start) (flat_map (λ n. n.components) (names_of_text text facts)))

abbrev pub UsesAscend : Type 0
UsesAscend = (files : List NamedFacts) (f : ℕ) (view : List ℕ) (text : List ℕ) (facts : FileFacts) → IsStrictlyIncreasing (map (λ u. u.span.start) (uses files f view (names_of_text text facts)))
