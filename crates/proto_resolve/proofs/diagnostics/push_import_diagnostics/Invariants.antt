use Rattle.std.proofs.Common.{◌≡◌, ◌++◌, drop}
use Rattle.std.specs.List.{enumerate_from, flat_map}
use Rattle.proto_resolve.specs.ViewDiagnostics.{import_diagnostics}
use Rattle.proto_resolve.proofs.diagnostics.push_import_diagnostics.Given as goal

-- what is found and what is left are all
abbrev pub invariant-loop-number : goal.invariant-loop-number
invariant-loop-number g l =
    l.found ++ flat_map (import_diagnostics (g.I.Index.files l.index) l.file) (enumerate_from l.number (drop l.number l.imports))
    ≡ l.fn.found ++ flat_map (import_diagnostics (g.I.Index.files l.index) l.file) (enumerate_from 0 l.imports)
