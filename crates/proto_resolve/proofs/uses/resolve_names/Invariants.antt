use Rattle.std.proofs.Common.{◌≡◌, ◌++◌, drop}
use Rattle.std.specs.List.{enumerate_from, flat_map}
use Rattle.proto_resolve.specs.Uses.{uses, uses_of}
use Rattle.proto_resolve.specs.ViewDiagnostics.{name_diagnostics}
use Rattle.proto_resolve.proofs.uses.resolve_names.Given as goal

-- what is left goes behind what there is
abbrev pub invariant-loop-number : goal.invariant-loop-number
invariant-loop-number g l =
    (l.names.uses ++ flat_map (λ e. uses_of (g.I.Index.files l.index) l.view.file l.view.files e.0 e.1) (enumerate_from l.number (drop l.number l.sites))
    ≡ uses (g.I.Index.files l.index) l.view.file l.view.files l.sites)
    × (l.names.diagnostics ++ flat_map (name_diagnostics (g.I.Index.files l.index) l.view.file l.view.files) (drop l.number l.sites)
    ≡ flat_map (name_diagnostics (g.I.Index.files l.index) l.view.file l.view.files) l.sites)
