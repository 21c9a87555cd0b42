-- The edges of a file are as many as its imports.
use Rattle.std.proofs.Common.{◌≡◌, ℕ, zero, suc, List, [], ◌∷◌, length, get_or, map, refl}
use Rattle.std.proofs.lemmas.List.{length-map}
use Rattle.proto_decls.specs.declared.named_facts.NamedFacts.{NamedFacts}
use Rattle.import_graph.specs.Imports.{imports_of, edge_of}
use Rattle.proto_names.specs.Files.{no_facts}

pub as_many : (all files : List NamedFacts) (f : ℕ)
    → length (get_or (map (λ file. file.edges) (map (λ x. imports_of all x.facts) files)) f []) ≡ length (let facts = get_or (map (λ x. x.facts) files) f no_facts in facts.imports)
as_many all [] f = refl
as_many all (x ∷ xs) zero = length-map (let facts = x.facts in facts.imports) (edge_of all)
as_many all (x ∷ xs) (suc f) = as_many all xs f
