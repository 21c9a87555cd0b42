use Rattle.std.proofs.Common.{◌≡◌, ◌++◌, drop}
use Rattle.proto_decls.proofs.fact.copy_decls.Given as goal

abbrev pub invariant-each : goal.invariant-each
invariant-each l = l.found ++ drop l.fact-index l.decls ≡ l.decls
