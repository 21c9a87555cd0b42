use Rattle.std.proofs.Common.{◌≡◌, drop}
use Rattle.std.specs.List.{enumerate_from, list_any}
use Rattle.lsp_queries.specs.Files.{package_in}
use Rattle.proto_names.specs.Files.{is_within}
use Rattle.lsp_renames.specs.Renaming.{is_package}
use Rattle.lsp_renames.proofs.renaming.is_package.Given as goal

-- whether it is that of a file that is left is whether it is that of any
abbrev pub invariant-loop-file : goal.invariant-loop-file
invariant-loop-file l = list_any (λ e. is_within l.full_name (package_in l.analysis e.0)) (enumerate_from l.file (drop l.file l.analysis.paths)) ≡ is_package l.analysis l.full_name
