use Rattle.std.proofs.Common.{◌≡◌}
use Rattle.proto_names.specs.Replaced.{refs_between}
use Rattle.proto_names.proofs.decls.decls_between.Given as goal

-- those so far
abbrev pub invariant-loop-number : goal.invariant-loop-number
invariant-loop-number l = l.found.items ≡ refs_between l.file l.start l.number
