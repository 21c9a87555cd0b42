use Rattle.std.proofs.Common.{◌≡◌, ◌++◌, drop, map}
use Rattle.proto_decls.specs.FullNames.{hash_of}
use Rattle.proto_facts.proofs.twice.name_hashes.Given as goal

-- what is there and what is left are all
abbrev pub invariant-loop-decl : goal.invariant-loop-decl
invariant-loop-decl l = l.hashes.items ++ map (λ d. hash_of d.full_name) (drop l.decl-index l.decls) ≡ map (λ d. hash_of d.full_name) l.decls
