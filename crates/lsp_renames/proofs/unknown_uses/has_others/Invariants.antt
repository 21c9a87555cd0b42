use Rattle.std.proofs.Common.{◌≡◌, drop}
use Rattle.std.specs.List.{enumerate_from, list_any}
use Rattle.lsp_renames.specs.UnknownUses.{has_others, is_of_other}
use Rattle.lsp_renames.proofs.unknown_uses.has_others.Given as goal

-- whether it is so of a file that is left is whether it is so of any
abbrev pub invariant-loop-file : goal.invariant-loop-file
invariant-loop-file l = list_any (λ e. is_of_other l.analysis e.0) (enumerate_from l.file (drop l.file l.analysis.paths)) ≡ has_others l.analysis
