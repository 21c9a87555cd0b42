use Rattle.std.proofs.Common.{take}
use Rattle.std.specs.List.{list_any}
use Rattle.proto_decls.specs.Text.{joined}
use Rattle.proto_names.specs.Files.{has_package}
use Rattle.proto_names.specs.Holders.{IsPast}
use Rattle.proto_resolve.proofs.views.last_package.Given as goal

-- the place is behind those of the files so far
abbrev pub invariant-loop-file : goal.invariant-loop-file
invariant-loop-file g l = IsPast (λ n. list_any (has_package (g.I.Index.files l.index) (joined (take n l.scope) l.name)) (take l.file-index l.view.files)) l.lengths l.place
