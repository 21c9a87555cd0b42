use Rattle.std.proofs.Common.{◌≡◌, take}
use Rattle.std.specs.Prelude.{All}
use Rattle.lsp_queries.proofs.place.count_in.Given as goal

-- those so far are in the file
abbrev pub invariant-loop-number : goal.invariant-loop-number
invariant-loop-number l = All (λ p. p.file ≡ l.file) (take l.number l.places)
