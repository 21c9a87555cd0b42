use Rattle.std.proofs.Common.{◌≡◌, take, drop, map}
use Rattle.proto_names.specs.Moved.{moved}
use Rattle.proto_names.proofs.moving.renumber.Given as goal

-- those so far have other numbers, the others are as they were
abbrev pub invariant-loop-decl : goal.invariant-loop-decl
invariant-loop-decl l = (take l.decl-index l.decl-items ≡ map (moved l.change l.at) (take l.decl-index l.fn.decls.items)) × (drop l.decl-index l.decl-items ≡ drop l.decl-index l.fn.decls.items)
