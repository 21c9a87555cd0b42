use Rattle.std.proofs.Common.{◌≡◌, ◌++◌, drop}
use Rattle.std.specs.List.{flat_map}
use Rattle.proto_resolve.specs.ViewDiagnostics.{decl_diagnostics}
use Rattle.proto_resolve.proofs.diagnostics.push_decl_diagnostics.Given as goal

-- what is found and what is left are all
abbrev pub invariant-decls : goal.invariant-decls
invariant-decls g l =
    l.found ++ flat_map (decl_diagnostics (g.I.Index.files l.index) l.view.file l.view.files) (drop l.decl-index l.decls)
    ≡ l.fn.found ++ flat_map (decl_diagnostics (g.I.Index.files l.index) l.view.file l.view.files) l.decls
