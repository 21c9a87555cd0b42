-- The hashes of names, and declarations with hashes, before they are put in order.
use Rattle.std.specs.Prelude.{◌≡◌, ℕ, ◌+◌, List, map}
use Rattle.std.specs.List.{enumerate_from, flat_map}
use Rattle.proto_decls.specs.FullNames.{hash_of}
use Rattle.proto_decls.specs.declared.named_facts.NamedFacts.{NamedFacts}
use Rattle.proto_names.specs.declared.hashed.HashedDecl.{HashedDecl}
use Rattle.proto_names.specs.declared.decl_ref.DeclRef.{DeclRef}
use Rattle.proto_names.specs.Tables.{holder_entries, AreRearranged}

-- a declaration, where its file stands behind so many others
abbrev pub renumbered : ℕ → DeclRef → DeclRef
renumbered n r = record { file = n + r.file; number = r.number }

-- the same with its hash
abbrev pub with_renumbered : ℕ → HashedDecl → HashedDecl
with_renumbered n k = record { hash = k.hash; decl = renumbered n k.decl }

-- the hashes of the full names of a file's declarations, by offset
abbrev pub hashes_of : NamedFacts → List ℕ
hashes_of file = map (λ d. hash_of d.full_name) (let facts = file.facts in facts.decls)

-- the entries for the declarations of a file, of which the hashes are given
abbrev pub entries_of : ℕ → List ℕ → List HashedDecl
entries_of f hashes = map (λ e. record { hash = e.1; decl = record { file = f; number = e.0 } }) (enumerate_from 0 hashes)

-- those of all files, of which the hashes are given in order
abbrev pub all_entries : List (List ℕ) → List HashedDecl
all_entries hashes = flat_map (λ e. entries_of e.0 e.1) (enumerate_from 0 hashes)

-- of each file the hashes of the full names of its declarations; and runs of entries for what may settle a scope, by the last components,
-- in any order
pub record AreEntriesOf (files : List NamedFacts) (hashes : List (List ℕ)) (holders : List (List HashedDecl)) : Type 0 where
  pub hashes_are : hashes ≡ map hashes_of files
  pub holders_are : AreRearranged (holder_entries files) (flat_map (λ run. run) holders)
