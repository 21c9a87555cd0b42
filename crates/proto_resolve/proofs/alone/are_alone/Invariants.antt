use Rattle.std.proofs.Common.{◌≡◌, ℕ, List, drop}
use Rattle.std.specs.List.{flat_map}
use Rattle.proto_resolve.specs.ViewDiagnostics.{decl_diagnostics}
use Rattle.proto_resolve.proofs.alone.are_alone.Given as goal

-- nothing is wrong with the declarations so far
abbrev pub invariant-loop-decl : goal.invariant-loop-decl
invariant-loop-decl g l =
    (view : List ℕ) → flat_map (decl_diagnostics (g.I.Index.files l.index) l.file view) (drop l.decl-index l.decls)
    ≡ flat_map (decl_diagnostics (g.I.Index.files l.index) l.file view) l.decls
