use Rattle.std.proofs.Common.{◌≡◌, ◌++◌, drop}
use Rattle.std.specs.Prelude.{filter, nat_lt, not}
use Rattle.lsp_queries.proofs.referring.places_from.Given as goal

-- those so far and those that are left are all
abbrev pub invariant-loop-place : goal.invariant-loop-place
invariant-loop-place l = l.found.items ++ filter (λ p. not (nat_lt p.start l.start)) (drop l.place-index l.places) ≡ filter (λ p. not (nat_lt p.start l.start)) l.places
