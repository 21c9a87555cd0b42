use Rattle.std.proofs.Common.{take}
use Rattle.std.specs.Prelude.{All}
use Rattle.proto_decls.specs.BytePairs.{HasPairs}
use Rattle.proto_decls.proofs.decls.pairs_of.Given as goal

abbrev pub invariant-loop-decl : goal.invariant-loop-decl
invariant-loop-decl l = record { before : HasPairs l.pairs l.before; all : All (λ d. HasPairs l.pairs d.full_name) (take l.decl-index l.decls) }
