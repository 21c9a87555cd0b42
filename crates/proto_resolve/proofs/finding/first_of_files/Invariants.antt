use Rattle.std.proofs.Common.{◌≡◌, drop, find}
use Rattle.proto_resolve.proofs.Firsts.{is_visible}
use Rattle.proto_resolve.proofs.finding.first_of_files.Given as goal

-- the files so far have none of the declarations
abbrev pub invariant-loop-file : goal.invariant-loop-file
invariant-loop-file l = find (is_visible l.view.files) l.decls ≡ find (is_visible (drop l.file-index l.view.files)) l.decls
