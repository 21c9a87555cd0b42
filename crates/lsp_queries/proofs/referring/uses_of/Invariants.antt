use Rattle.std.proofs.Common.{◌≡◌, ◌++◌, drop, map}
use Rattle.std.specs.Prelude.{filter}
use Rattle.lsp_queries.specs.Answers.{is_of}
use Rattle.lsp_queries.specs.Files.{place}
use Rattle.lsp_queries.proofs.referring.uses_of.Given as goal

-- those so far and those that are left are all
abbrev pub invariant-loop-found : goal.invariant-loop-found
invariant-loop-found l =
    l.places.items ++ map (λ u. place l.file u.span) (filter (λ u. is_of l.decl u.target) (drop l.found-index l.found-items)) ≡ map (λ u. place l.file u.span) (filter (λ u. is_of l.decl u.target) l.found-items)
