use Rattle.std.proofs.Common.{◌≡◌, take, map}
use Rattle.proto_names.specs.declared.hashed.HashedDecl.{HashedDecl}
use Rattle.proto_names.proofs.hashed.apart.Given as goal

-- those so far
abbrev pub invariant-loop-one : goal.invariant-loop-one
invariant-loop-one l = (l.hashes.items ≡ map (λ (k : HashedDecl). k.hash) (take l.one-index l.hashed)) × (l.decls.items ≡ map (λ (k : HashedDecl). k.decl) (take l.one-index l.hashed))
