use Rattle.std.proofs.Common.{◌≡◌, ◌++◌, drop, map}
use Rattle.std.specs.List.{enumerate_from}
use Rattle.proto_names.proofs.decls.push_decls.Given as goal

-- what is found and what is left are all
abbrev pub invariant-loop-number : goal.invariant-loop-number
invariant-loop-number l =
    l.found.items ++ map (λ d. record { file = l.file; number = d.0 }) (enumerate_from l.number (drop l.number l.decls))
    ≡ l.fn.found.items ++ map (λ d. record { file = l.file; number = d.0 }) (enumerate_from 0 l.decls)
