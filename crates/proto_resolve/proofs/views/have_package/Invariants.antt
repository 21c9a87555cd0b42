use Rattle.std.proofs.Common.{◌≡◌, false, take}
use Rattle.std.specs.List.{list_any}
use Rattle.proto_decls.specs.Text.{joined}
use Rattle.proto_names.specs.Files.{has_package}
use Rattle.proto_resolve.proofs.views.have_package.Given as goal

-- none of the files so far has the package
abbrev pub invariant-loop-file : goal.invariant-loop-file
invariant-loop-file g l = list_any (has_package (g.I.Index.files l.index) (joined l.name.scope.now l.name.last.now)) (take l.file-index l.files) ≡ false
