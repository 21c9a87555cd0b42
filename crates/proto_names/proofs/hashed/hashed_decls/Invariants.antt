use Rattle.std.proofs.Common.{◌≡◌, take, map}
use Rattle.proto_names.specs.Hashed.{hashed}
use Rattle.proto_names.proofs.hashed.hashed_decls.Given as goal

-- those so far
abbrev pub invariant-loop-decl : goal.invariant-loop-decl
invariant-loop-decl g l = l.found.items ≡ map (hashed (g.N.Naming.part l.files)) (take l.decl-index l.decls)
