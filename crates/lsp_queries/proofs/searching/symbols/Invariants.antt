use Rattle.std.proofs.Common.{◌≡◌, ◌++◌, drop, filter}
use Rattle.lsp_queries.specs.Answers.{is_match, symbols}
use Rattle.lsp_queries.proofs.searching.symbols.Given as goal

-- what is found and what is left are all
abbrev pub invariant-loop-decl : goal.invariant-loop-decl
invariant-loop-decl l = l.found.items ++ filter (is_match l.analysis l.query) (drop l.decl-index l.decl-items) ≡ symbols l.analysis l.query
