use Rattle.std.proofs.Common.{◌≡◌, map, take}
use Rattle.proto_decls.specs.FullNames.{hash_of}
use Rattle.proto_names.proofs.name_entries.name_hashes.Given as goal

-- those so far
abbrev pub invariant-loop-decl : goal.invariant-loop-decl
invariant-loop-decl l = l.hashes.items ≡ map (λ d. hash_of d.full_name) (take l.decl-index l.decls)
