use Rattle.std.proofs.Common.{◌≡◌, ◌++◌, drop}
use Rattle.std.specs.List.{enumerate_from, flat_map}
use Rattle.lsp_queries.specs.Answers.{sites_in, sites_of}
use Rattle.lsp_queries.proofs.referring.sites_of.Given as goal

-- what is found and what is left are all
abbrev pub invariant-loop-file : goal.invariant-loop-file
invariant-loop-file l =
    l.found.items ++ flat_map (λ e. sites_in l.analysis l.decl l.own e.0) (enumerate_from l.file (drop l.file l.analysis.paths)) ≡ sites_of l.analysis l.decl l.own
