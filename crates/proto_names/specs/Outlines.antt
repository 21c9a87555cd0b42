-- What a file says to those that see it, and other facts of a file.
use Rattle.std.specs.Prelude.{ℕ, List, [], slice_index_or, slice_set, map, Option, option_map}
use Rattle.proto_decls.specs.declared.fact.Decl.{Decl}
use Rattle.proto_decls.specs.declared.fact.DeclKind.{DeclKind}
use Rattle.proto_decls.specs.declared.fact.FileFacts.{FileFacts}
use Rattle.proto_decls.specs.declared.named_facts.NamedFacts.{NamedFacts}

-- what a declaration says to other files
abbrev pub declared : Decl → DeclKind × List ℕ
declared d = (d.kind, d.full_name)

-- the files with other facts of one of them
abbrev pub with_facts : List NamedFacts → ℕ → FileFacts → List NamedFacts
with_facts files f facts = slice_set files f (record { path = slice_index_or (map (λ file. file.path) files) f []; facts = facts })

-- the full name of the package, if there is one
abbrev pub package_name : FileFacts → Option (List ℕ)
package_name facts = option_map (λ p. p.full_name) facts.«package»

-- What a file's facts say to the files that see it: the kinds and full names of its declarations, in order, and its package's
-- full name.
abbrev pub exports : FileFacts → List (DeclKind × List ℕ) × Option (List ℕ)
exports facts = (map (λ d. (d.kind, d.full_name)) facts.decls, package_name facts)
