use Rattle.std.proofs.Common.{◌≡◌, drop}
use Rattle.std.specs.List.{list_any}
use Rattle.proto_resolve.proofs.Firsts.{is_another}
use Rattle.proto_resolve.proofs.diagnostics.has_another.Given as goal

-- the files so far have none of the declarations, but for the own file
abbrev pub invariant-loop-file : goal.invariant-loop-file
invariant-loop-file l = list_any (is_another l.view.file l.view.files) l.decls ≡ list_any (is_another l.view.file (drop l.file-index l.view.files)) l.decls
